use mathlib.Core.Path.{sym, ap, ◌∙◌}
use Prim.Native.Nat.{ℕ, ◌+◌, ◌*◌}
use lib.ListN.{get_or}
use Rattle.words.specs.Words.{words}
use Rattle.layout.specs.Layout.{place_at, place_words, place_part}
use Rattle.layout.proofs.Bounds.{store_small}
use Rattle.row_checks.specs.Rows.{key_below}
use Rattle.store_check.specs.Places.{brick_sound}
use Rattle.layout.proofs.Lent.{lent}
use Rattle.store_check.proofs.PlaceLaws.{place_empty, place_far, place_twice, place_brick}
use native.Mathlib.Omega.{arith}
use Rattle.store_check.proofs.place.place_good.Goals as goal

pub place_at-at-requires : goal.place_at-at-requires
place_at-at-requires c = (c.requires.places_fit.small, c.requires.passed.inside)

pub returns-then-id-eq0 : goal.returns-then-id-eq0
returns-then-id-eq0 c =
    let ws = words c.args.store.now in
    let r = c.read-id.ensures ∙ ap (λ (k : ℕ). get_or ws k 0) c.place_at-at.ensures.0 in
    sym (place_empty _ _ _ c.args.p _ r c.if-id-eq0.true)

pub returns-then-given-id : goal.returns-then-given-id
returns-then-given-id c =
    let ws = words c.args.store.now in
    let r = c.read-id.ensures ∙ ap (λ (k : ℕ). get_or ws k 0) c.place_at-at.ensures.0 in
    sym (place_far _ _ _ c.args.p _ r c.if-id-eq0.false c.if-given-id.true)

pub returns-then-not-alone : goal.returns-then-not-alone
returns-then-not-alone c =
    let ws = words c.args.store.now in
    let r = c.read-id.ensures ∙ ap (λ (k : ℕ). get_or ws k 0) c.place_at-at.ensures.0 in
    sym (place_twice _ _ _ c.args.p _ r c.if-id-eq0.false (sym c.alone.ensures ∙ c.if-not-alone.true))

pub overflow_mul-a : goal.overflow_mul-a
overflow_mul-a c = omega (arith, store_small _ c.requires.places_fit.small)

pub overflow_mul-e : goal.overflow_mul-e
overflow_mul-e c = omega (arith, store_small _ c.requires.places_fit.small)

pub overflow_add-e : goal.overflow_add-e
overflow_add-e c = omega (arith, store_small _ c.requires.places_fit.small)

pub returns : goal.returns
returns c =
    let ws = words c.args.store.now in
    let r = c.read-id.ensures ∙ ap (λ (k : ℕ). get_or ws k 0)
    c.place_at-at.ensures.0 in
    let s = c.args.store.now in
    let n = c.args.settings in
    c.brick_good.ensures ∙ ap (brick_sound n (key_below c.args.bounds.now))
    (lent s (8 * c.place_at-at.result)
    (8 * c.place_at-at.result + 8 * c.place_words.result)
    (place_at n c.args.p) (place_words n) (omega arith) (omega arith) (omega arith)) ∙ sym
    (place_brick _ _ (λ p. brick_sound n (key_below c.args.bounds.now) (place_part n p ws)) c.args.p _ r c.if-id-eq0.false
    c.if-given-id.false (sym c.alone.ensures ∙ c.if-not-alone.false))
