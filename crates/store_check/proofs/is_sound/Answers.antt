use mathlib.Core.Path.{◌≡◌, sym, ap, subst, ◌∙◌}
use mathlib.Core.Bool.{true}
use Prim.Native.Nat.{ℕ, ◌*◌}
use Rattle.lists.proofs.Runs.{below_of}
use Rattle.words.specs.Words.{words}
use Rattle.rules.specs.declared.settings.Settings.{Settings}
use Rattle.rules.specs.Limits.{in_limits}
use Rattle.rules.specs.Sound.{sound_key}
use Rattle.rules.specs.Limits.{Limits}
use Rattle.rules.proofs.Limits.{limits}
use Rattle.layout.specs.Layout.{settings_of, store_words}
use Rattle.layout.specs.Store.{decode}
use Rattle.layout.proofs.Bounds.{store_small}
use Rattle.store_check.specs.Store.{parts_sound}
use Rattle.store_check.proofs.ByteLaws.{settings_bad, settings_own, odd_bytes, short_bytes, version_bytes, other_bytes, limit_bytes, parts_bytes}
use native.Mathlib.Omega.{arith}
use Rattle.store_check.proofs.is_sound.Goals as goal

pub returns-then-store-ne0 : goal.returns-then-store-ne0
returns-then-store-ne0 c = sym (odd_bytes _ c.if-store-ne0.true)

pub returns-then-store : goal.returns-then-store
returns-then-store c = sym (short_bytes _ c.if-store.true)

pub returns-then-read-ne-VERSION : goal.returns-then-read-ne-VERSION
returns-then-read-ne-VERSION c = sym (version_bytes _ (λ e. c.if-read-ne-VERSION.true (c.read.ensures ∙ e)))

pub returns-in_default : goal.returns-in_default
returns-in_default c =
    let s = c.args.store.now in
    sym (limit_bytes s (settings_bad (words s) _ _ _ _ c.read-places.ensures c.read-size.ensures c.read-entries.ensures
    c.read-chunks.ensures _ (sym c.in_default.is ∙ c.new.ensures)))

pub store_words-requires : goal.store_words-requires
store_words-requires c =
    let own : (settings_of (words c.args.store.now) ≡ c.in-Ok.settings) × (in_limits (settings_of (words c.args.store.now)) ≡ true) = settings_own (words c.args.store.now) _ _ _ _ c.read-places.ensures c.read-size.ensures c.read-entries.ensures c.read-chunks.ensures
    c.in-Ok.settings (sym c.in-Ok.is ∙ c.new.ensures) in
    let small : Limits c.in-Ok.settings = subst Limits (own).0 (limits _ (own).1) in
    small

pub overflow_mul-store_words : goal.overflow_mul-store_words
overflow_mul-store_words c =
    let own : (settings_of (words c.args.store.now) ≡ c.in-Ok.settings) × (in_limits (settings_of (words c.args.store.now)) ≡ true) = settings_own (words c.args.store.now) _ _ _ _ c.read-places.ensures c.read-size.ensures c.read-entries.ensures c.read-chunks.ensures
    c.in-Ok.settings (sym c.in-Ok.is ∙ c.new.ensures) in
    let small : Limits c.in-Ok.settings = subst Limits (own).0 (limits _ (own).1) in
    omega (arith, store_small _ (small))

pub returns-then-store-store_words : goal.returns-then-store-store_words
returns-then-store-store_words c =
    let own : (settings_of (words c.args.store.now) ≡ c.in-Ok.settings) × (in_limits (settings_of (words c.args.store.now)) ≡ true) = settings_own (words c.args.store.now) _ _ _ _ c.read-places.ensures c.read-size.ensures c.read-entries.ensures c.read-chunks.ensures
    c.in-Ok.settings (sym c.in-Ok.is ∙ c.new.ensures) in
    sym (other_bytes c.args.store.now (λ e. c.if-store-store_words.true (e ∙ ap (λ (c : Settings). 8 * store_words c) (own).0
    ∙ ap (λ (k : ℕ). 8 * k) (sym c.store_words.ensures))))

pub parts_good-requires : goal.parts_good-requires
parts_good-requires c =
    let own : (settings_of (words c.args.store.now) ≡ c.in-Ok.settings) × (in_limits (settings_of (words c.args.store.now)) ≡ true) = settings_own (words c.args.store.now) _ _ _ _ c.read-places.ensures c.read-size.ensures c.read-entries.ensures c.read-chunks.ensures
    c.in-Ok.settings (sym c.in-Ok.is ∙ c.new.ensures) in
    let small : Limits c.in-Ok.settings = subst Limits (own).0 (limits _ (own).1) in
    record {
      small = small;
      size = c.if-store-store_words.false ∙ ap (λ (k : ℕ). 8 * k) c.store_words.ensures;
      own = (own).0;
    }

pub returns : goal.returns
returns c =
    let own : (settings_of (words c.args.store.now) ≡ c.in-Ok.settings) × (in_limits (settings_of (words c.args.store.now)) ≡ true) = settings_own (words c.args.store.now) _ _ _ _ c.read-places.ensures c.read-size.ensures c.read-entries.ensures c.read-chunks.ensures
    c.in-Ok.settings (sym c.in-Ok.is ∙ c.new.ensures) in
    let s = c.args.store.now in
    let o = own in
    let size = c.if-store-store_words.false ∙ ap (λ (k : ℕ). 8 * k) c.store_words.ensures ∙ ap (λ (c : Settings). 8 * store_words c) (sym o.0) in
    let version = sym c.read.ensures ∙ c.if-read-ne-VERSION.false in
    c.parts_good.ensures ∙ ap (λ (c : Settings). parts_sound c (sound_key (decode (words s))) (words s)) (sym o.0)
    ∙ parts_bytes s (below_of 256 s (λ i. (c.type_inv.store i).fits)) size version o.1
