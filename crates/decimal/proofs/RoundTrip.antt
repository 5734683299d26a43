-- A number below 2^64 and its decimal text determine each other.
use mathlib.Core.Path.{◌≡◌, ap, ◌∙◌}
use mathlib.Core.Bool.{true, false}
use mathlib.Core.List.{List, [], ◌∷◌, ◌++◌, append_assoc, append-nil}
use Rattle.std.specs.Prelude.{Option, Some, None}
use Prim.Native.Nat.{ℕ, zero, suc, ◌+◌, ◌-◌, ◌*◌, ◌/◌, ◌%◌, ◌^◌, ◌≤◌, ◌<◌}
use native.Mathlib.Omega.{arith}
use borrow.Author.Tests.{eqb-false}
use lib.Dec.{lit<, eqb}
use lib.ListN.{get_or, get_or-append}
use Rattle.lists.proofs.Tests.{by, by_lt}
use Rattle.area.proofs.Each.{Above, each_none, each_more, each_append}
use Rattle.decimal.specs.Decimal.{decimal, push, and_then, spelled, number_of}
use Rattle.decimal.proofs.Laws.{tenth, width_small, decimal_least, decimal_small, decimal_more, push_under, push_over, push_wide, push_fits}
use Rattle.decimal.proofs.Laws.{spelled_append, then_some, one_digit, no_leading_zero}

-- ---- there: the text of a number is read as that number

push_back : (n : ℕ) → n < 2 ^ 64 → push (n / 10) (48 + n % 10) ≡ Some n
push_back n h =
    let e : 10 * (n / 10) + (48 + n % 10 - 48) ≡ n = omega arith in
    push_fits (n / 10) (48 + n % 10) (omega arith) (omega arith) (omega arith) ∙ ap Some e

spelled_last : (v b n : ℕ) → push v b ≡ Some n → spelled v (b ∷ []) ≡ Some n
unfolding spelled and_then
spelled_last v b n e = rw e

-- what holds of one digit, and of a number where it holds of the number without its last digit
by_digits : (P : ℕ → Type 0) → ((n : ℕ) → n < 10 → P n) → ((n : ℕ) → 10 ≤ n → n < 2 ^ 64 → P (n / 10) → P n)
    → (n : ℕ) → n < 2 ^ 64 → P n
by_digits P one longer n h = go 19 n (omega arith) h
  where
    go : (k n : ℕ) → n < 10 ^ suc k → n < 2 ^ 64 → P n
    go zero n p h = one n p
    go (suc k) n p h = by_lt n 10 (λ _. one n) (λ _ q. longer n q h (go k (n / 10) (tenth (suc k) n p) (omega arith)))

spelled_decimal : (n : ℕ) → n < 2 ^ 64 → spelled 0 (decimal n) ≡ Some n
unfolding and_then
spelled_decimal =
    by_digits (λ n. spelled 0 (decimal n) ≡ Some n)
    (λ n p.
    let e : 10 * 0 + (48 + n - 48) ≡ n = omega arith in
    rw (decimal_small n p) (spelled_last 0 (48 + n) n (push_fits 0 (48 + n) (omega arith) (omega arith) (omega arith) ∙ ap Some e)))
    (λ n p b r.
    rw (decimal_more n p b, spelled_append 0 (decimal (n / 10)) ((48 + n % 10) ∷ []), r)
    (spelled_last (n / 10) (48 + n % 10) n (push_back n b)))

-- the first digit of a number above 0 is no 0
leads : (n : ℕ) → n < 2 ^ 64 → 1 ≤ n → 48 < get_or (decimal n) 0 0
leads =
    by_digits (λ n. 1 ≤ n → 48 < get_or (decimal n) 0 0)
    (λ n p o. rw (decimal_small n p) (omega arith))
    (λ n p b r o.
    rw (decimal_more n p b, get_or-append (decimal (n / 10)) ((48 + n % 10) ∷ []) 0 0 (decimal_least (n / 10))) (r (omega arith)))

pub number_there : (n : ℕ) → n < 2 ^ 64 → number_of (decimal n) ≡ Some n
number_there n h =
    by_lt n 1
    (λ _ p. one_digit (decimal n) (width_small n (omega arith)) ∙ spelled_decimal n h)
    (λ _ p. no_leading_zero (decimal n) (decimal_least n) (λ e. omega (arith, leads n h p)) ∙ spelled_decimal n h)

-- no digit is a comma or a line feed
pub decimal_above : (n : ℕ) → n < 2 ^ 64 → Above 44 (decimal n)
decimal_above =
    by_digits (λ n. Above 44 (decimal n))
    (λ n p. rw (decimal_small n p) (each_more {x = 48 + n} (omega arith) each_none))
    (λ n p b r. rw (decimal_more n p b) (each_append r (each_more {x = 48 + n % 10} (omega arith) each_none)))

-- ---- and back: a text that is read as a number is that number's text

record Pushed (v b w : ℕ) : Type 0 where
  low : 48 ≤ b
  high : b < 58
  is : w ≡ 10 * v + (b - 48)
  fits : w < 2 ^ 64

pushed : (v b w : ℕ) → push v b ≡ Some w → Pushed v b w
pushed v b w e =
    by_lt b 48 (λ _ p. never (push_under v b p))
    (λ _ p. by_lt 57 b (λ _ q. never (push_over v b q))
    (λ _ q. by_lt (10 * v + (b - 48)) (2 ^ 64)
    (λ _ r.
    let s : w ≡ 10 * v + (b - 48) = same (push_fits v b p (omega arith) r) in
    record { low = p; high = omega arith; is = s; fits = omega arith })
    (λ _ r. never (push_wide v b p (omega arith) r))))
  where
    never : push v b ≡ None → Pushed v b w
    never n = let z : ◌≡◌ {A = ℕ} 0 1 = cc in absurd (omega arith)

    same : {x : ℕ} → push v b ≡ Some x → w ≡ x
    same h = cc

decimal_push : (v b w : ℕ) → 1 ≤ v → Pushed v b w → decimal w ≡ decimal v ++ (b ∷ [])
decimal_push v b w o p =
    let q : w / 10 ≡ v = omega arith in
    let r : 48 + w % 10 ≡ b = omega arith in
    decimal_more w (omega arith) p.fits ∙ rw (q, r)

spelled_back : (s : List ℕ) (v n : ℕ) → 1 ≤ v → spelled v s ≡ Some n → decimal n ≡ decimal v ++ s
unfolding spelled
spelled_back [] v n o e = let same : n ≡ v = cc in rw (same, append-nil)
spelled_back (b ∷ s) v n o e =
    let step = then_some (push v b) (λ w. spelled w s) n e in
    let p = pushed v b step.0 step.1 in
    spelled_back s step.0 n (omega arith) step.2 ∙ ap (λ (l : List ℕ). l ++ s) (decimal_push v b step.0 o p) ∙ append_assoc (decimal v) (b ∷ []) s

decimal_first : (b w : ℕ) → Pushed 0 b w → decimal w ≡ b ∷ []
decimal_first b w p =
    let e : 48 + w ≡ b = omega arith in
    decimal_small w (omega arith) ∙ rw e

pub number_back : (s : List ℕ) (n : ℕ) → number_of s ≡ Some n → decimal n ≡ s
unfolding number_of spelled
number_back [] n e = let z : ◌≡◌ {A = ℕ} 0 1 = cc in absurd (omega arith)
number_back (b ∷ []) n e =
    let step = then_some (push 0 b) (λ w. spelled w []) n e in
    let same : n ≡ step.0 = cc in
    rw same (decimal_first b step.0 (pushed 0 b step.0 step.1))
number_back (b ∷ c ∷ s) n e = by (eqb b 48) zero_first other_first
  where
    zero_first : eqb b 48 ≡ true → decimal n ≡ b ∷ c ∷ s
    zero_first t = let z : ◌≡◌ {A = Option ℕ} None (Some n) = rw t at e in let y : ◌≡◌ {A = ℕ} 0 1 = cc in absurd (omega arith)

    other_first : eqb b 48 ≡ false → decimal n ≡ b ∷ c ∷ s
    other_first f =
        let g : spelled 0 (b ∷ c ∷ s) ≡ Some n = rw f at e in
        let step = then_some (push 0 b) (λ w. spelled w (c ∷ s)) n g in
        let p = pushed 0 b step.0 step.1 in
        let o : 1 ≤ step.0 = omega (arith, eqb-false b 48 f) in
        spelled_back (c ∷ s) step.0 n o step.2 ∙ ap (λ (l : List ℕ). l ++ (c ∷ s)) (decimal_first b step.0 p)

spelled_fits : (s : List ℕ) (v n : ℕ) → v < 2 ^ 64 → spelled v s ≡ Some n → n < 2 ^ 64
unfolding spelled
spelled_fits [] v n h e = let same : n ≡ v = cc in omega arith
spelled_fits (b ∷ s) v n h e =
    let step = then_some (push v b) (λ w. spelled w s) n e in
    spelled_fits s step.0 n (pushed v b step.0 step.1).fits step.2

pub number_fits : (s : List ℕ) (n : ℕ) → number_of s ≡ Some n → n < 2 ^ 64
unfolding number_of
number_fits [] n e = let z : ◌≡◌ {A = ℕ} 0 1 = cc in absurd (omega arith)
number_fits (b ∷ []) n e = spelled_fits (b ∷ []) 0 n (lit< tt) e
number_fits (b ∷ c ∷ s) n e =
    by (eqb b 48)
    (λ t. let z : ◌≡◌ {A = Option ℕ} None (Some n) = rw t at e in let y : ◌≡◌ {A = ℕ} 0 1 = cc in absurd (omega arith))
    (λ f. spelled_fits (b ∷ c ∷ s) 0 n (lit< tt) (rw f at e))
