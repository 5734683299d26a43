-- Kinds by their numbers: a range of kinds at once, fields that a kind doesn't have, numbers of no kind, and which kind an event is of.
use mathlib.Core.Path.{◌≡◌, refl, sym, ap, subst, ◌∙◌}
use mathlib.Core.List.{List, []}
use Prim.Native.Nat.{ℕ, zero, suc, ◌+◌, ◌≤◌, ◌<◌}
use native.Mathlib.Omega.{arith}
use lib.Dec.{eqb}
use lib.ListN.{length, get_or-eq_default}
use borrow.Author.Tests.{eqb-true}
use Rattle.lists.specs.Tests.{◌and◌, all_below}
use Rattle.lists.proofs.Tests.{by_eq, by_lt, all_at}
use Rattle.rules.specs.Event.{Event, kinds, no_kind, kind_at, kind_count, event_of, fields_brought, event_from, event_fields}

-- ---- what holds of each number of a range holds of all of it
abbrev Each : (ℕ → Type 0) → ℕ → ℕ → Type 0
Each P low zero = Unit {0}
Each P low (suc n) = P low × Each P (suc low) n

in_range : (P : ℕ → Type 0) (n low : ℕ) → Each P low n → (k : ℕ) → low ≤ k → k < low + n → P k
in_range P zero low t k a b = absurd (omega arith)
in_range P (suc n) low t k a b =
    by_eq k low (λ _ e. subst P (sym e) t.0) (λ _ u. in_range P n (suc low) t.1 k (omega arith) (omega arith))

-- the number of kinds is that of the table's rows
pub kinds_count : length kinds ≡ kind_count
unfolding kinds
kinds_count = refl

unfoldable pub kinds_open : ℕ
unfolding event_of fields_brought kind_at kinds event_fields
kinds_open = 0

module _ (a b c : ℕ) (bytes : List ℕ) where
  -- ---- fields that a kind doesn't have are not looked at
  pub two_numbers : (k : ℕ) → 4 ≤ k → k ≤ 8 → event_from k a b c bytes ≡ event_from k a b 0 []
  unfolding kinds_open
  two_numbers k l h = in_range (λ k. event_from k a b c bytes ≡ event_from k a b 0 []) 5 4 (refl, (refl, (refl, (refl, (refl, tt))))) k l (omega arith)

  pub one_number : (k : ℕ) → 12 ≤ k → k ≤ 22 → event_from k a b c bytes ≡ event_from k a 0 0 []
  unfolding kinds_open
  one_number k l h =
      in_range (λ k. event_from k a b c bytes ≡ event_from k a 0 0 []) 11 12
      (refl, (refl, (refl, (refl, (refl, (refl, (refl, (refl, (refl, (refl, (refl, tt))))))))))) k l (omega arith)

  -- ---- numbers of no kind
  pub kind_none : (k : ℕ) → k ≡ 0 → event_from k a b c bytes ≡ Event.unknown
  unfolding kinds_open
  kind_none k e = rw e

  pub kind_past : (k : ℕ) → kind_count < k → event_from k a b c bytes ≡ Event.unknown
  unfolding event_of fields_brought kind_at kinds
  kind_past zero h = absurd (omega arith)
  kind_past (suc i) h = let e = get_or-eq_default kinds no_kind {n = i} (omega arith) in rw e

  -- ---- an event has the number that it was made with, or 0 where that is of no kind
  kind_made : (k : ℕ) → k < suc kind_count → (event_fields (event_from k a b c bytes)).kind ≡ k
  unfolding kinds_open all_below ◌and◌
  kind_made k h = eqb-true _ _ (all_at (suc kind_count) (λ k. eqb (event_fields (event_from k a b c bytes)).kind k) refl k h)

  pub made_kind : (k : ℕ) (e : Event) → event_from k a b c bytes ≡ e → 0 < (event_fields e).kind → k ≡ (event_fields e).kind
  made_kind k e q l =
      by_lt k (suc kind_count) (λ _ h. sym (kind_made k h) ∙ ap (λ (x : Event). (event_fields x).kind) q)
      (λ _ h. absurd (no_number (sym q ∙ kind_past k (omega arith))))
    where
      no_number : e ≡ Event.unknown → ⊥
      no_number z = let n : (event_fields e).kind ≡ 0 = ap (λ (x : Event). (event_fields x).kind) z ∙ (unfold event_fields in refl) in omega (arith, l, n)
