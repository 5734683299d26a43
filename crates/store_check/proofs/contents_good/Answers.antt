use mathlib.Core.Path.{◌≡◌, refl, sym, ap, ◌∙◌}
use mathlib.Core.List.{List}
use Prim.Native.Nat.{ℕ, ◌+◌, ◌*◌, ◌-◌}
use lib.ListN.{take, drop}
use Rattle.lists.proofs.Tests.{both, no_first, no_second, yes_first}
use Rattle.words.specs.Words.{words}
use Rattle.rules.specs.Sound.{sound_bag}
use Rattle.layout.specs.Layout.{bag_codec, bag_at, bag_words, bag_part}
use Rattle.row_checks.specs.Rows.{key_below}
use Rattle.store_check.specs.Store.{contents_sound}
use Rattle.rules.proofs.Limits.{few_buckets}
use Rattle.layout.proofs.Lent.{lent}
use native.Mathlib.Omega.{arith}
use Rattle.store_check.proofs.contents_good.Goals as goal

pub overflow_mul-a : goal.overflow_mul-a
overflow_mul-a c = omega (arith, c.bag_at-a.ensures, few_buckets c.args.settings)

pub overflow_add-a : goal.overflow_add-a
overflow_add-a c = omega (arith, c.bag_at-a.ensures, few_buckets c.args.settings)

pub slice_bounds-bag_good-count : goal.slice_bounds-bag_good-count
slice_bounds-bag_good-count c = omega arith

pub slice_bounds-bag_good-start : goal.slice_bounds-bag_good-start
slice_bounds-bag_good-start c = omega arith

pub slice_bounds-bag_good-end : goal.slice_bounds-bag_good-end
slice_bounds-bag_good-end c = omega (arith, c.bag_at-a.ensures, c.requires.size)

pub returns-then-not-bag_good : goal.returns-then-not-bag_good
unfolding contents_sound
returns-then-not-bag_good c =
    let in-store : words (take (8 * c.bag_at-a.result + 8 * bag_words - 8 * c.bag_at-a.result) (drop (8 * c.bag_at-a.result) c.args.store.now))
    ≡ bag_part c.args.settings (words c.args.store.now) = let at = c.bag_at-a.result in
    lent c.args.store.now (8 * at) (8 * at + 8 * bag_words) (bag_at c.args.settings) bag_words (omega (arith, c.bag_at-a.ensures)) refl
    (omega (arith, c.bag_at-a.ensures, c.requires.size)) in
    let a = c.args in
    sym (no_first _ _ (no_first _ _ (ap (λ (w : List ℕ). sound_bag (key_below a.bounds.now) a.settings (bag_codec.dec w)) (sym (in-store))
    ∙ sym c.bag_good.ensures ∙ c.if-not-bag_good.true)))

pub returns-then-not-proxies_good : goal.returns-then-not-proxies_good
unfolding contents_sound
returns-then-not-proxies_good c = sym (no_first _ _ (no_second _ _ (sym c.proxies_good.ensures ∙ c.if-not-proxies_good.true)))

pub returns : goal.returns
unfolding contents_sound
returns c =
    let in-store : words (take (8 * c.bag_at-a.result + 8 * bag_words - 8 * c.bag_at-a.result) (drop (8 * c.bag_at-a.result) c.args.store.now))
    ≡ bag_part c.args.settings (words c.args.store.now) = let at = c.bag_at-a.result in
    lent c.args.store.now (8 * at) (8 * at + 8 * bag_words) (bag_at c.args.settings) bag_words (omega (arith, c.bag_at-a.ensures)) refl
    (omega (arith, c.bag_at-a.ensures, c.requires.size)) in
    let a = c.args in
    let bag = ap (λ (w : List ℕ). sound_bag (key_below a.bounds.now) a.settings (bag_codec.dec w)) (sym (in-store)) in
    c.places_good.ensures ∙ sym (yes_first _ _ (both _ _ (bag ∙ sym c.bag_good.ensures ∙ c.if-not-bag_good.false)
    (sym c.proxies_good.ensures ∙ c.if-not-proxies_good.false)))
