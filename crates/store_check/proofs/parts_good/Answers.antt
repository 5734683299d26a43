use mathlib.Core.Path.{sym, ap, ◌∙◌}
use mathlib.Core.Bool.{Bool}
use Prim.Native.Nat.{ℕ, ◌≤◌}
use lib.ListN.{get_or}
use Rattle.lists.specs.Tests.{all_below}
use Rattle.lists.proofs.Tests.{both, no_first, no_second, yes_first}
use Rattle.words.specs.Words.{words}
use Rattle.words.proofs.Laws.{length_words}
use Rattle.rules.specs.Limits.{buckets, max_id}
use Rattle.rules.specs.Sound.{sound_key}
use Rattle.layout.specs.Layout.{given_at}
use Rattle.layout.specs.Store.{decode}
use Rattle.row_checks.specs.Rows.{ids}
use Rattle.part_checks.specs.Agreed.{agreed_at_sound}
use Rattle.store_check.specs.Store.{contents_sound, parts_sound}
use Rattle.store_check.proofs.KeyLaws.{zeros, zero_bound, keys_below}
use Rattle.store_check.proofs.ByteLaws.{header_given}
use native.Mathlib.Omega.{arith}
use borrow.Author.Rules.{rules}
use Rattle.store_check.proofs.parts_good.Goals as goal

pub returns-then-not-header_good : goal.returns-then-not-header_good
unfolding parts_sound
returns-then-not-header_good c = sym (no_first _ _ (no_first _ _ (sym c.header_good.ensures ∙ c.if-not-header_good.true)))

pub returns-then-not-all_agreed_good : goal.returns-then-not-all_agreed_good
unfolding parts_sound
returns-then-not-all_agreed_good c =
    let n = c.args.settings in
    let ws = words c.args.store.now in
    sym (no_first _ _ (no_second _ _ (ap (λ (k : ℕ). all_below (buckets n) (agreed_at_sound k ws)) (sym c.read-given.ensures) ∙ sym
    c.all_agreed_good.ensures ∙ c.if-not-all_agreed_good.true)))

pub fill_given-requires : goal.fill_given-requires
fill_given-requires c =
    let few : get_or (words c.args.store.now) given_at 0 ≤ max_id = header_given _ _ _ _ (sym
    c.header_good.ensures ∙ c.if-not-header_good.false) in search rules

pub fill_places-requires : goal.fill_places-requires
fill_places-requires c =
    let few : get_or (words c.args.store.now) given_at 0 ≤ max_id = header_given _ _ _ _ (sym
    c.header_good.ensures ∙ c.if-not-header_good.false) in
    record { known = c.fill_given.ensures.long; few = omega arith; small = c.requires.small; size = c.requires.size }

pub contents_good-requires : goal.contents_good-requires
contents_good-requires c =
    record {
      known = c.fill_places.ensures.long ∙ c.fill_given.ensures.long;
      none = zero_bound _ (words c.args.store.now) _ _ _ _ _ (zeros ids) c.fill_given.ensures
          c.fill_places.ensures;
      small = c.requires.small;
      size = c.requires.size;
    }

pub returns : goal.returns
unfolding parts_sound
returns c =
    let n = c.args.settings in
    let ws = words c.args.store.now in
    let keys = keys_below ws n c.requires.own _ _ _ _ (zeros ids) c.fill_given.ensures
    (length_words c.args.store.now ∙ omega arith) c.read-given.ensures
    c.fill_places.ensures in
    c.contents_good.ensures ∙ ap (λ (good : ℕ → Bool). contents_sound n good
    c.read-given.result ws) keys ∙ ap
    (λ (k : ℕ). contents_sound n (sound_key (decode ws)) k ws)
    c.read-given.ensures ∙ sym
    (yes_first _ _ (both _ _ (sym c.header_good.ensures
    ∙ c.if-not-header_good.false)
    (ap (λ (k : ℕ). all_below (buckets n) (agreed_at_sound k ws))
    (sym c.read-given.ensures) ∙ sym
    c.all_agreed_good.ensures ∙ c.if-not-all_agreed_good.false)))
