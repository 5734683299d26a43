use mathlib.Core.Path.{◌≡◌, sym, ap, ◌∙◌}
use mathlib.Core.Bool.{not}
use mathlib.Core.List.{[], ◌∷◌}
use lib.Dec.{ltb}
use Rattle.std.proofs.lemmas.Result.{err_from_is_err_and}
use Rattle.words.specs.Words.{words}
use Rattle.rules.specs.Question.{◌asks◌, first_no}
use Rattle.rules.specs.Views.{source, fetch_asks}
use Rattle.rules.proofs.Questions.{first_yes, first_stop, none_asked}
use Rattle.rules.proofs.Refusals.{refuses_there}
use Rattle.layout.specs.Contents.{Agreed}
use Rattle.layout.specs.Store.{decode}
use Rattle.recovery.specs.Asks.{bucket_asks}
use Rattle.recovery.proofs.Questions.{bucket_yes, bucket_more, no_source, some_source}
use Rattle.recovery.proofs.fetch.asks.Goals as goal
use Rattle.recovery.proofs.fetch.asks.Goals.{After-agreed-agreed}

-- the questions after those of the bucket
later : (c : After-agreed-agreed) → let s = decode (words c.args.store.now) in first_no (fetch_asks s c.args.bucket)
    ≡ first_no ((13 asks not c.agreed-agreed.result.ready) ∷ (13 asks ltb 0 (source s c.args.bucket)) ∷ [])
later c =
    bucket_more c.args.settings c.args.store.now c.requires c.args.bucket (sym c.in_ok-bucket_asks.ensures) _
    ∙ ap (λ (k : Agreed). first_no ((13 asks not k.ready) ∷ (13 asks ltb 0 (source (decode (words c.args.store.now)) c.args.bucket)) ∷ []))
    (sym c.agreed-agreed.ensures)

pub returns-in_err-bucket_asks : goal.returns-in_err-bucket_asks
returns-in_err-bucket_asks c =
    let p = err_from_is_err_and c.from_residual.result c.from_residual.ensures.1 in
    rw (p.1, p.2) (refuses_there (bucket_asks (decode (words c.args.store.now)) c.args.bucket) _ _ c.in_err-bucket_asks.ensures)

pub agreed-agreed-requires : goal.agreed-agreed-requires
agreed-agreed-requires c =
    (c.requires, (bucket_yes c.args.settings c.args.store.now c.requires c.args.bucket (sym c.in_ok-bucket_asks.ensures)).inside)

pub returns-then-agreed : goal.returns-then-agreed
returns-then-agreed c = sym (later (goal.at.returns-then-agreed c).After-agreed-agreed ∙ first_stop 13 _ (ap not c.if-agreed.true))

pub find_source-requires : goal.find_source-requires
find_source-requires c =
    (c.requires, (bucket_yes c.args.settings c.args.store.now c.requires c.args.bucket (sym c.in_ok-bucket_asks.ensures)).inside)

pub returns-then-is_some : goal.returns-then-is_some
returns-then-is_some c =
    let yes = some_source c.args.settings c.args.store.now c.requires c.args.bucket _ c.find_source.ensures (sym c.is_some.ensures ∙ c.if-is_some.true) in
    sym (later (goal.at.returns-then-is_some c).After-agreed-agreed ∙ first_yes 13 _ (ap not c.if-agreed.false) ∙ first_yes 13 _ yes ∙ none_asked)

pub returns-else-is_some : goal.returns-else-is_some
returns-else-is_some c =
    let no = no_source c.args.settings c.args.store.now c.requires c.args.bucket _ c.find_source.ensures (sym c.is_some.ensures ∙ c.if-is_some.false) in
    sym (later (goal.at.returns-else-is_some c).After-agreed-agreed ∙ first_yes 13 _ (ap not c.if-agreed.false) ∙ first_stop 13 _ no)
