use mathlib.Core.Path.{◌≡◌, refl, ap, ◌∙◌}
use mathlib.Core.List.{List, ◌++◌}
use Prim.Native.Nat.{ℕ, ◌+◌, ◌*◌, ◌-◌}
use native.Mathlib.Omega.{arith}
use lib.ListN.{length, take, drop}
use Rattle.lists.proofs.Runs.{run_length}
use Rattle.rules.specs.Limits.{buckets}
use Rattle.rules.specs.Pairs.{id_in}
use Rattle.words.specs.Words.{words}
use Rattle.layout.specs.Store.{decode, render}
use Rattle.layout.proofs.Foci.{all_agreed_in}
use Rattle.layout.proofs.Lent.{lent_length}
use Rattle.lent.proofs.Stores.{settings_are}
use Rattle.lent.proofs.Effects.{later_effect}
use Rattle.lent.proofs.AllPlaces.{places_lent}
use Rattle.views.specs.Begin.{renewed}
use Rattle.views.proofs.Counts.{view_pairs_long}
use Rattle.views.proofs.EffectLaws.{head_written, records_written, headed, viewed}
use Rattle.views.proofs.begin.write.Goals as goal
use Rattle.views.proofs.begin.write.Goals.{After-renew_all}

-- the bytes once the header and the records were written
abbrev after : After-renew_all → List ℕ
after c =
    let v = c.write-2.new.s in take 64 v ++ (c.renew_all.new.part ++ drop (8 * c.proxies_at-proxies_at.result - 64) (drop 64 v))

record Renewed (c : After-renew_all) : Type 0 where
  long : length (after c) ≡ length c.args.store.now
  same : words (after c) ≡ render (records_written c.args.settings c.args.store.now c.requires.0 c.args.started c.args.pairs.now) (words c.args.store.now)

renews : (c : After-renew_all) → Renewed c
renews c =
    let t = c.args.settings in
    let bs = c.args.store.now in
    let v = c.requires.0 in
    let n = c.args.started in
    let assigned = c.args.pairs.now in
    let p = c.proxies_at-proxies_at in
    let w = c.write-2.new.s in
    let head = headed t bs v n c.view-view.result _ _ c.view-view.ensures c.write.ensures c.write-2.ensures in
    let head_long : length w ≡ length bs = c.write-2.auto.s ∙ c.write.auto.s in
    let long : length c.renew_all.new.part ≡ 8 * p.result - 64 = c.renew_all.auto.part
    ∙ run_length 64 (8 * p.result - 64) w (omega (arith, p.ensures, head_long, v.size)) in
    record {
      long = lent_length w c.renew_all.new.part 64 (8 * p.result - 64) (omega (arith, p.ensures, head_long, v.size)) long ∙ head_long;
      same = later_effect t bs v (all_agreed_in t) (refl, refl) (head_written t bs v n) refl refl w head head_long 64 (8 * p.result)
          (omega arith) (omega (arith, p.ensures)) (records_written t bs v n assigned) refl (refl, refl) c.renew_all.new.part (omega (arith, long, p.ensures))
          (λ old g. renewed (id_in assigned (2 * g)) (id_in assigned (2 * g + 1)) (old g)) refl c.renew_all.ensures;
    }

pub renew_all-requires : goal.renew_all-requires
renew_all-requires c =
    let p = c.proxies_at-proxies_at in (
      run_length 64 (8 * p.result - 64) c.write-2.new.s (omega arith) ∙ omega arith,
      ap length c.requires.2 ∙ view_pairs_long (decode (words c.args.store.now)) c.args.settings
          (settings_are c.args.settings c.args.store.now c.requires.0) (buckets c.args.settings) refl,
    )

pub begin_all-requires : goal.begin_all-requires
begin_all-requires c =
    let now = renews (goal.at.begin_all-requires c).After-renew_all in
    let bs = c.args.store.now in
    let q = c.places_at-places_at in
    places_lent c.args.settings bs c.requires.0 (records_written c.args.settings bs c.requires.0 c.args.started c.args.pairs.now) refl refl
    _ now.same now.long (8 * q.result) (length bs) (omega (arith, q.ensures)) (omega (arith, q.ensures, c.requires.0.size))

pub returns : goal.returns
returns c =
    let now = renews (goal.at.returns c).After-renew_all in
    let bs = c.args.store.now in
    let q = c.places_at-places_at in
    viewed c.args.settings bs c.requires.0 c.args.started c.args.pairs.now c.requires.1.up c.requires.2 _ now.same now.long
    (8 * q.result) (length bs) (omega (arith, q.ensures)) (omega (arith, q.ensures, c.requires.0.size)) c.begin_all.new.part (omega arith)
    c.begin_all.ensures
