use mathlib.Core.Path.{refl, sym, ap, ◌∙◌}
use mathlib.Core.List.{List}
use mathlib.Core.Bool.{Bool}
use Prim.Native.Nat.{ℕ, ◌*◌}
use lib.Dec.{eqb}
use Rattle.lists.specs.Tests.{all_below}
use Rattle.lists.specs.Runs.{run}
use Rattle.lists.proofs.Tests.{both, no_first, no_second, yes_first}
use Rattle.words.specs.Words.{words}
use Rattle.rules.specs.Limits.{buckets}
use Rattle.layout.specs.Layout.{all_copies_codec, all_copies_at, log_at, log_words}
use Rattle.layout.proofs.Bounds.{place_small}
use Rattle.row_checks.specs.Rows.{key_below}
use Rattle.part_checks.specs.Copies.{copies_sound}
use Rattle.row_checks.specs.Chunks.{log_sound}
use Rattle.store_check.specs.Places.{waiting_at, brick_sound}
use Rattle.rules.specs.Sound.{sound_buffer}
use Rattle.layout.proofs.Lent.{lent}
use Rattle.store_check.proofs.PlaceLaws.{up_is}
use native.Mathlib.Omega.{arith}
use Rattle.store_check.proofs.place.brick_good.Goals as goal

pub returns-then-not-status_good : goal.returns-then-not-status_good
unfolding brick_sound
returns-then-not-status_good c = sym (no_first _ _ (no_first _ _ (no_first _ _ (sym c.status_good.ensures ∙ c.if-not-status_good.true))))

pub returns-then-not-buffer_good : goal.returns-then-not-buffer_good
unfolding brick_sound
returns-then-not-buffer_good c =
    let s = c.args.place.now in
    let n = c.args.settings in
    let up = sym (up_is (words s) ∙ ap (λ (k : ℕ). eqb k 1) (sym c.read-up.ensures)) in
    sym (no_first _ _ (no_first _ _ (no_second _ _ (ap (λ (b : Bool). sound_buffer (key_below c.args.bounds.now) b (waiting_at (words s))) (sym up) ∙ sym
    c.buffer_good.ensures ∙ c.if-not-buffer_good.true))))

pub overflow_mul-log : goal.overflow_mul-log
overflow_mul-log c = omega (arith, c.log_at-log.ensures, place_small _ c.requires.place_fit.small)

pub returns-then-not-all_copies_good : goal.returns-then-not-all_copies_good
unfolding brick_sound
returns-then-not-all_copies_good c =
    let s = c.args.place.now in
    let n = c.args.settings in
    let up = sym (up_is (words s) ∙ ap (λ (k : ℕ). eqb k 1) (sym c.read-up.ensures)) in
    sym (no_first _ _ (no_second _ _ (ap (λ (b : Bool). all_below (buckets n) (copies_sound n (key_below c.args.bounds.now) b
    (run all_copies_at (all_copies_codec n).size (words s)))) (sym up) ∙ ap (λ (v : List ℕ). all_below (buckets n)
    (copies_sound n (key_below c.args.bounds.now) (eqb c.read-up.result 1) v))
    (sym (lent s (8 * all_copies_at) (8 * c.log_at-log.result) all_copies_at (all_copies_codec n).size refl (omega arith)
    (omega arith))) ∙ sym c.all_copies_good.ensures ∙ c.if-not-all_copies_good.true)))

pub overflow_mul-end : goal.overflow_mul-end
overflow_mul-end c = omega (arith, place_small _ c.requires.place_fit.small)

pub returns : goal.returns
unfolding brick_sound
returns c =
    let s = c.args.place.now in
    let n = c.args.settings in
    let up = sym (up_is (words s) ∙ ap (λ (k : ℕ). eqb k 1) (sym c.read-up.ensures)) in
    c.log_good.ensures ∙ ap (log_sound n (key_below c.args.bounds.now)) (lent s
    (8 * c.log_at-log.result) (8 * c.place_words-end.result) (log_at n) (log_words n)
    (omega arith) (omega arith) (omega arith)) ∙ sym (yes_first _ _ (both _ _ (both _ _ (sym
    c.status_good.ensures ∙ c.if-not-status_good.false)
    (ap (λ (b : Bool). sound_buffer (key_below c.args.bounds.now) b (waiting_at (words s))) (sym up) ∙ sym
    c.buffer_good.ensures ∙ c.if-not-buffer_good.false)) (ap (λ (b : Bool). all_below (buckets n)
    (copies_sound n (key_below c.args.bounds.now) b (run all_copies_at (all_copies_codec n).size (words s)))) (sym up) ∙ ap
    (λ (v : List ℕ). all_below (buckets n) (copies_sound n (key_below c.args.bounds.now)
    (eqb c.read-up.result 1) v))
    (sym (lent s (8 * all_copies_at) (8 * c.log_at-log.result) all_copies_at (all_copies_codec n).size refl
    (omega arith) (omega arith))) ∙ sym c.all_copies_good.ensures ∙ c.if-not-all_copies_good.false)))
