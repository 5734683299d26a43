use mathlib.Core.Path.{ap, subst, ◌∙◌}
use Prim.Native.Nat.{ℕ}
use Rattle.std.specs.Prelude.{Some}
use Rattle.words.specs.Words.{words}
use Rattle.rules.specs.Views.{source}
use Rattle.layout.specs.Contents.{Agreed}
use Rattle.layout.specs.Store.{decode}
use Rattle.lent.specs.Places.{Stands}
use Rattle.recovery.specs.Fetch.{fetched_record, SourceIs}
use Rattle.recovery.proofs.Questions.{source_there}
use Rattle.recovery.proofs.FetchLaws.{fetch_few, fetch_steps}
use Rattle.recovery.proofs.fetch.replace.Goals as goal
use Rattle.recovery.proofs.fetch.replace.Goals.{After-place-to, After-unwrap-source}

-- the source is an up member
found : (c : After-unwrap-source) → let s = decode (words c.args.store.now) in SourceIs s c.args.bucket (Some c.unwrap-source.result)
found c = subst (SourceIs (decode (words c.args.store.now)) c.args.bucket) c.unwrap-source.ensures c.find_source.ensures

-- where it and the primary stand
stands : (c : After-place-to) → let s = decode (words c.args.store.now) in SourceIs s c.args.bucket (Some c.unwrap-source.result)
    → Stands c.args.settings s (source s c.args.bucket) c.place-from.result × Stands c.args.settings s (s.bucket c.args.bucket).primary c.place-to.result
stands c is =
    let s = decode (words c.args.store.now) in (
      subst (λ (i : ℕ). Stands c.args.settings s i c.place-from.result) is.0 c.place-from.ensures,
      subst (λ (k : Agreed). Stands c.args.settings s k.primary c.place-to.result) c.agreed-agreed.ensures c.place-to.ensures,
    )

pub unwrap-source-requires : goal.unwrap-source-requires
unwrap-source-requires c =
    source_there c.args.settings c.args.store.now c.requires.0 c.args.bucket _ c.find_source.ensures c.requires.2

pub place-from-requires : goal.place-from-requires
place-from-requires c = (c.requires.0, (found (goal.at.place-from-requires c).After-unwrap-source).1)

pub replace-requires : goal.replace-requires
replace-requires c =
    let at = goal.at.replace-requires c in
    let pair = stands at.After-place-to (found at.After-unwrap-source) in
    let v = c.requires.0 in
    record {
      limits = v.limits;
      size = v.size;
      bucket = c.requires.1.inside;
      from_in = pair.0.inside;
      to_in = pair.1.inside;
      few = fetch_few c.args.settings c.args.store.now v c.args.bucket c.requires.1.inside _ _ pair.0 pair.1;
    }

pub returns : goal.returns
returns c =
    let at = goal.at.returns c in
    let pair = stands at.After-place-to (found at.After-unwrap-source) in
    fetch_steps c.args.settings c.args.store.now c.requires.0 c.args.bucket c.requires.1.inside _ _ pair.0 pair.1 _ _ _
    (c.fetched.ensures ∙ ap (λ (k : Agreed). fetched_record k) c.agreed-agreed.ensures)
    c.replace.ensures c.write.ensures
