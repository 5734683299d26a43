-- What the calls answer, from the answer of the settings' constructor.
use mathlib.Core.Path.{◌≡◌, refl, sym, ap, ◌∙◌}
use mathlib.Core.List.{List}
use mathlib.Core.Bool.{true, false}
use Prim.Native.Nat.{ℕ}
use native.Mathlib.Omega.{arith}
use lib.ListN.{length}
use borrow.Author.Tests.{eq-eqb, ne_eqb}
use Rattle.lists.specs.Tests.{◌and◌}
use Rattle.lists.specs.Runs.{Below}
use Rattle.lists.proofs.Tests.{by, both}
use Rattle.words.specs.Words.{words, unwords}
use Rattle.words.proofs.Laws.{unwords_words}
use Rattle.rules.specs.declared.settings.Settings.{Settings}
use Rattle.std.specs.Prelude.{Ok, Err}
use Rattle.std.specs.Result.{result_unwrap_or}
use Rattle.rules.specs.declared.refusal.Refusal.{Refusal}
use Rattle.rules.specs.declared.refusal.Refusal.TheVariants.{BadSettings}
use Rattle.rules.specs.Limits.{in_limits, checked}
use Rattle.rules.specs.Format.{format}
use Rattle.layout.specs.Layout.{store_words}
use Rattle.layout.specs.Store.{render, render_bytes, store_bytes}
use Rattle.store.specs.Calls.{settings, length_of, length_answer, may_format, Formatted}

-- ---- settings that were made are those asked for, and in their limits
pub good_limits : (n s m l : ℕ) (c : Settings) → Ok c ≡ checked n s m l → in_limits (settings n s m l) ≡ true
unfolding checked
good_limits n s m l c g =
    by (in_limits (settings n s m l)) (λ y. y)
    (λ q. let e : Ok c ≡ Err BadSettings = g ∙ rw q in let z : ◌≡◌ {A = ℕ} 0 1 = cc in absurd (omega arith))

pub good_is : (n s m l : ℕ) (c : Settings) → Ok c ≡ checked n s m l → c ≡ settings n s m l
unfolding checked
good_is n s m l c g =
    let y = good_limits n s m l c g in
    let e : Ok c ≡ Ok (settings n s m l) = g ∙ rw y in
    cc

pub bad_limits : (n s m l : ℕ) (r : Refusal) → Err r ≡ checked n s m l → (in_limits (settings n s m l) ≡ false) × (r ≡ BadSettings)
unfolding checked
bad_limits n s m l r b =
    by (in_limits (settings n s m l))
    (λ y. let e : Err r ≡ Ok (settings n s m l) = b ∙ rw y in let z : ◌≡◌ {A = ℕ} 0 1 = cc in absurd (omega arith))
    (λ q. let e : Err r ≡ Err BadSettings = b ∙ rw q in (q, cc))

-- ---- length
pub length_good : (c : Settings) → in_limits c ≡ true → Ok (store_bytes c) ≡ length_of c
unfolding length_of
length_good c y = rw y

pub length_bad : (c : Settings) → in_limits c ≡ false → Err BadSettings ≡ length_of c
unfolding length_of
length_bad c q = rw q

-- as a number
pub length_number : (c : Settings) → result_unwrap_or (length_of c) 0 ≡ length_answer c
unfolding length_of length_answer
length_number c = by (in_limits c) (λ y. rw y refl) (λ q. rw q refl)

-- ---- format
pub refused : (c : Settings) (bs : List ℕ) → may_format c bs ≡ false → Formatted c bs 1 bs
refused c bs q = record { code = rw q; bytes = rw q }

pub bad_format : (c : Settings) (bs : List ℕ) → in_limits c ≡ false → may_format c bs ≡ false
unfolding may_format ◌and◌
bad_format c bs q = rw q

pub short_format : (c : Settings) (bs : List ℕ) → (length bs ≡ store_bytes c → ⊥) → may_format c bs ≡ false
unfolding may_format ◌and◌
short_format c bs h = by (in_limits c) (λ q. rw (q, ne_eqb (length bs) (store_bytes c) h)) (λ q. rw q)

pub accepted : (c : Settings) (bs cs : List ℕ) → in_limits c ≡ true → length bs ≡ store_bytes c → Below 256 cs → length cs ≡ length bs
    → words cs ≡ render (format c) (words bs) → Formatted c bs 0 cs
unfolding may_format render_bytes
accepted c bs cs y h b k e =
    let q : may_format c bs ≡ true = both _ _ y (eq-eqb (length bs) (store_bytes c) h) in
    let back : cs ≡ unwords (render (format c) (words bs)) = sym (unwords_words cs (store_words c) b (k ∙ h)) ∙ ap unwords e in
    record { code = rw q; bytes = rw q back }
