-- One call on lent bytes, sound or not: what it keeps, and which numbers it answers.
use mathlib.Core.Path.{◌≡◌, refl, sym, ◌∙◌}
use mathlib.Core.List.{List}
use mathlib.Core.Bool.{true, false}
use mathlib.Core.Logic.{inl, inr}
use Prim.Native.Nat.{ℕ, suc}
use native.Mathlib.Omega.{arith}
use lib.Dec.{eqb}
use lib.ListN.{length}
use borrow.Author.Tests.{ne_eqb}
use Rattle.lists.specs.Runs.{Below}
use Rattle.lists.proofs.Tests.{either, no_second}
use Rattle.words.specs.Words.{words}
use Rattle.rules.specs.declared.settings.Settings.{Settings}
use Rattle.rules.specs.Event.{Event}
use Rattle.rules.specs.Call.{Call, get_kind}
use Rattle.rules.specs.Step.{Outcome as Result, rule, step}
use Rattle.rules.proofs.Step.{Stepped, refused, accepted, stepped, Numbered, step_numbers}
use Rattle.layout.specs.Layout.{settings_of}
use Rattle.layout.specs.Store.{decode_bytes, render_bytes, sound_bytes}
use Rattle.layout.proofs.Bytes.{bytes_sound, bytes_still}
use Rattle.lent.specs.Stores.{StoreOf}
use Rattle.lent.proofs.Stores as stores
use Rattle.calls.specs.Outcome.{Outcome, filled, performed, event_on, outcome}
use Rattle.calls.proofs.Performed.{sound_store}
use Rattle.calls.proofs.Held.{holds_own, holds_step, held_settings, settings_step, length_step, render_below}

-- 2 is answered where the bytes are not sound, and only there
pub two_unsound : (bs : List ℕ) (call : Call) → (outcome bs call).code ≡ 2 → sound_bytes bs ≡ false
unfolding outcome
two_unsound bs call =
    either (λ (o : Outcome). o.code ≡ 2 → sound_bytes bs ≡ false) (sound_bytes bs)
    (λ _ t. absurd (not_two (step_numbers (decode_bytes bs) (event_on bs call)) t)) (λ n _. n)
  where
    not_two : {c : ℕ} → Numbered c → c ≡ 2 → ⊥
    not_two (inl z) t = omega arith
    not_two (inr z) t = omega (arith, z.0)

-- ---- a call keeps the number of bytes, whether they are sound, and the settings; what it leaves are bytes
pub record Kept (before after : List ℕ) : Type 0 where
  pub size : length after ≡ length before
  pub bytes : Below 256 after
  pub check : sound_bytes after ≡ sound_bytes before
  pub settings : settings_of (words after) ≡ settings_of (words before)

pub call_keeps : (bs : List ℕ) → Below 256 bs → (call : Call) → Kept bs (outcome bs call).store
unfolding outcome
call_keeps bs b call =
    either (λ (o : Outcome). Kept bs o.store) (sound_bytes bs)
    (λ y. let h = holds_own bs b y in
    let e = event_on bs call in
    let k = holds_step h e in
    record {
      size = length_step h e;
      bytes = render_below _ bs;
      check = k.passes ∙ sym y;
      settings = held_settings k ∙ settings_step h e ∙ sym (held_settings h);
    })
    (λ _. record { size = refl; bytes = b; check = refl; settings = refl })

-- so a store of some settings stays one
pub kept_of : {c : Settings} {bs after : List ℕ} → StoreOf c bs → Kept bs after → StoreOf c after
kept_of {c} {bs} {after} v k = record {
  limits = v.limits;
  size = k.size ∙ v.size;
  same = v.same ∙ sym k.settings;
  sound = bytes_sound after (k.check ∙ sound_store bs (stores.sound_store c bs v));
}

-- ---- a refusal has key 0, and no lent byte changes
abbrev Still : List ℕ → Call → Outcome → Type 0
Still bs call o = (o.code ≡ 0 → ⊥) → (o.key ≡ 0) × (o.area ≡ call.area) × (o.store ≡ bs)

pub refused_still : (bs : List ℕ) → Below 256 bs → (call : Call) → Still bs call (outcome bs call)
unfolding outcome filled
refused_still bs b call =
    either (Still bs call) (sound_bytes bs) (λ y. go y (step (decode_bytes bs) (event_on bs call)) (stepped (decode_bytes bs) (event_on bs call)))
    (λ _ _. (refl, refl, refl))
  where
    go : sound_bytes bs ≡ true → (o : Result) → Stepped (decode_bytes bs) (event_on bs call) o → Still bs call (performed bs call o)
    go y o (refused c) u = (refl, rw (no_second (eqb call.kind get_kind) (eqb (suc c) 0) (ne_eqb (suc c) 0 (λ e. omega arith))) refl, bytes_still bs b y)
    go y o (accepted _) u = absurd (u refl)

-- a get leaves the store, accepted or refused
pub get_still : (bs : List ℕ) → Below 256 bs → sound_bytes bs ≡ true → (p block : ℕ) → bs ≡ render_bytes (step (decode_bytes bs) (Event.get p block)).after bs
unfolding rule
get_still bs b y p block = go (step (decode_bytes bs) (Event.get p block)) (stepped (decode_bytes bs) (Event.get p block))
  where
    go : (o : Result) → Stepped (decode_bytes bs) (Event.get p block) o → bs ≡ render_bytes o.after bs
    go o (refused c) = sym (bytes_still bs b y)
    go o (accepted _) = sym (bytes_still bs b y)
