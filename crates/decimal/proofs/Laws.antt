-- Laws of decimal text: digits without their bound, the way there and back, and what the loops do.
use mathlib.Core.Path.{◌≡◌, refl, sym, ap, ◌∙◌}
use mathlib.Core.List.{List, [], ◌∷◌, ◌++◌, append_assoc}
use Rattle.std.specs.Prelude.{Option, Some, None}
use Prim.Native.Nat.{ℕ, zero, suc, ◌+◌, ◌-◌, ◌*◌, ◌/◌, ◌%◌, ◌^◌, ◌≤◌, ◌<◌}
use native.Mathlib.Nat.{pow-suc, div-lt_iff_lt-mul, zero-add}
use native.Mathlib.Numerals.{add-one}
use native.Mathlib.Omega.{arith}
use borrow.Author.Tests.{lt-ltb, le-ltb, ne_eqb}
use lib.Dec.{lit<, eqb}
use lib.ListN.{length, take, drop, get_or, set, length-append, length-set}
use lib.Seq.{set_split, drop_at, length-take-le}
use Rattle.area.specs.Area.{onto}
use Rattle.lists.proofs.Tests.{by, by_lt}
use Rattle.decimal.specs.Decimal.{digits, decimal, push, and_then, spelled, number_of}

-- ---- the digits

digits_small : (k n : ℕ) → n < 10 → digits (suc k) n ≡ (48 + n) ∷ []
unfolding digits
digits_small k n h = rw (lt-ltb n 10 h)

digits_more : (k n : ℕ) → 10 ≤ n → digits (suc k) n ≡ digits k (n / 10) ++ ((48 + n % 10) ∷ [])
unfolding digits
digits_more k n h = rw (le-ltb n 10 h)

pub tenth : (k n : ℕ) → n < 10 ^ suc k → n / 10 < 10 ^ k
tenth k n h = (div-lt_iff_lt-mul (lit< tt)).1 (rw pow-suc at h)

-- enough digits are enough
digits_enough : (k n : ℕ) → n < 10 ^ suc k → digits (suc k) n ≡ digits (suc (suc k)) n
digits_enough zero n h = digits_small zero n h ∙ sym (digits_small 1 n h)
digits_enough (suc k) n h =
    by_lt n 10
    (λ _ p. digits_small (suc k) n p ∙ sym (digits_small (suc (suc k)) n p))
    (λ _ p. digits_more (suc k) n p
    ∙ ap (λ (l : List ℕ). l ++ ((48 + n % 10) ∷ [])) (digits_enough k (n / 10) (tenth (suc k) n h))
    ∙ sym (digits_more (suc (suc k)) n p))

-- the two equations of `decimal`, which every other law goes by
pub decimal_small : (n : ℕ) → n < 10 → decimal n ≡ (48 + n) ∷ []
unfolding decimal
decimal_small n h = digits_small 19 n h

pub decimal_more : (n : ℕ) → 10 ≤ n → n < 2 ^ 64 → decimal n ≡ decimal (n / 10) ++ ((48 + n % 10) ∷ [])
unfolding decimal
decimal_more n h b =
    digits_more 19 n h ∙ ap (λ (l : List ℕ). l ++ ((48 + n % 10) ∷ [])) (digits_enough 18 (n / 10) (omega arith))

digits_most : (k n : ℕ) → length (digits k n) ≤ k
unfolding digits
digits_most zero n = omega arith
digits_most (suc k) n =
    by_lt n 10
    (λ _ p. rw (lt-ltb n 10 p) (omega arith))
    (λ _ p. rw (le-ltb n 10 p, length-append) (omega (arith, digits_most k (n / 10))))

pub decimal_most : (n : ℕ) → length (decimal n) ≤ 20
unfolding decimal
decimal_most n = digits_most 20 n

pub decimal_least : (n : ℕ) → 1 ≤ length (decimal n)
unfolding decimal digits
decimal_least n =
    by_lt n 10
    (λ _ p. rw (lt-ltb n 10 p) (omega arith))
    (λ _ p. rw (le-ltb n 10 p, length-append) (omega arith))

-- ---- what the loops do

pub width_small : (n : ℕ) → n < 10 → length (decimal n) ≡ 1
width_small n h = ap length (decimal_small n h)

pub width_more : (n : ℕ) → 10 ≤ n → n < 2 ^ 64 → length (decimal n) ≡ length (decimal (n / 10)) + 1
width_more n h b = ap length (decimal_more n h b) ∙ length-append (decimal (n / 10)) ((48 + n % 10) ∷ [])

-- two more digits
pub width_two : (n : ℕ) → 100 ≤ n → n < 2 ^ 64 → length (decimal n) ≡ length (decimal (n / 100)) + 2
width_two n h b =
    let e : n / 10 / 10 ≡ n / 100 = omega arith in
    omega (arith, width_more n (omega arith) b, width_more (n / 10) (omega arith) (omega arith), ap (λ (k : ℕ). length (decimal k)) e)

pub width_four : (n : ℕ) → 10000 ≤ n → n < 2 ^ 64 → length (decimal n) ≡ length (decimal (n / 10000)) + 4
width_four n h b =
    let e : n / 100 / 100 ≡ n / 10000 = omega arith in
    omega (arith, width_two n (omega arith) b, width_two (n / 100) (omega arith) (omega arith), ap (λ (k : ℕ). length (decimal k)) e)

pub width_2 : (n : ℕ) → 10 ≤ n → n < 100 → length (decimal n) ≡ 2
width_2 n h g = omega (arith, width_more n h (omega arith), width_small (n / 10) (omega arith))

pub width_3 : (n : ℕ) → 100 ≤ n → n < 1000 → length (decimal n) ≡ 3
width_3 n h g = omega (arith, width_two n h (omega arith), width_small (n / 100) (omega arith))

pub width_4 : (n : ℕ) → 1000 ≤ n → n < 10000 → length (decimal n) ≡ 4
width_4 n h g = omega (arith, width_two n (omega arith) (omega arith), width_2 (n / 100) (omega arith) (omega arith))

pub write_turn : (x i : ℕ) (area : List ℕ) → 10 ≤ x → x < 2 ^ 64 → i < length area
    → decimal (x / 10) ++ drop i (set area i (48 + x % 10)) ≡ decimal x ++ drop (i + 1) area
write_turn x i area h b hi =
    let e : drop i (set area i (48 + x % 10)) ≡ (48 + x % 10) ∷ drop (suc i) area =
    ap (drop i) (set_split area i (48 + x % 10) hi) ∙ drop_at (take i area) _ i (length-take-le i area (omega arith)) in
    rw (e, decimal_more x h b, append_assoc, add-one)

-- a turn that writes two digits
pub write_two : (x i : ℕ) (area : List ℕ) → 100 ≤ x → x < 2 ^ 64 → 1 ≤ i → i < length area
    → decimal (x / 100) ++ drop (i - 1) (set (set area i (48 + x % 10)) (i - 1) (48 + x / 10 % 10)) ≡ decimal x ++ drop (i + 1) area
write_two x i area h b least hi =
    let before = set area i (48 + x % 10) in
    let e : x / 10 / 10 ≡ x / 100 = omega arith in
    let j : i - 1 + 1 ≡ i = omega arith in
    let n = length-set area i (48 + x % 10) in
    let turn = write_turn (x / 10) (i - 1) before (omega arith) (omega arith) (omega arith) in
    (rw (e, j) at turn) ∙ write_turn x i area (omega arith) b hi

pub write_last : (x : ℕ) (area : List ℕ) → x < 10 → 0 < length area → set area 0 (48 + x % 10) ≡ decimal x ++ drop 1 area
write_last x area h p =
    let e : 48 + x % 10 ≡ 48 + x = omega arith in
    rw (decimal_small x h, e) (set_split area 0 (48 + x) p)

pub write_last_two : (x : ℕ) (area : List ℕ) → 10 ≤ x → x < 100 → 1 < length area
    → set (set area 1 (48 + x % 10)) 0 (48 + x / 10 % 10) ≡ decimal x ++ drop 2 area
write_last_two x area h g p =
    let n = length-set area 1 (48 + x % 10) in
    write_last (x / 10) (set area 1 (48 + x % 10)) (omega arith) (omega arith) ∙ write_turn x 1 area h (omega arith) p

pub write_done : (t l m : List ℕ) → m ≡ t ++ drop (length t) l → m ≡ onto 0 t l
unfolding onto
write_done t l m e = rw zero-add e

-- ---- one more digit

module _ (v b : ℕ) where
  pub push_under : b < 48 → push v b ≡ None
  unfolding push
  push_under h = rw (lt-ltb b 48 h)

  pub push_over : 57 < b → push v b ≡ None
  unfolding push
  push_over h = rw (le-ltb b 48 (omega arith), le-ltb b 58 h)

  pub push_wide : 48 ≤ b → b < 58 → 2 ^ 64 ≤ 10 * v + (b - 48) → push v b ≡ None
  unfolding push
  push_wide p q h = rw (le-ltb b 48 p, lt-ltb b 58 q, le-ltb (10 * v + (b - 48)) (2 ^ 64) h)

  pub push_fits : 48 ≤ b → b < 58 → 10 * v + (b - 48) < 2 ^ 64 → push v b ≡ Some (10 * v + (b - 48))
  unfolding push
  push_fits p q h = rw (le-ltb b 48 p, lt-ltb b 58 q, lt-ltb (10 * v + (b - 48)) (2 ^ 64) h)

-- ---- texts

-- what came first, and what came of it
pub then_some : {A B : Type 0} (o : Option A) (f : A → Option B) (b : B) → and_then o f ≡ Some b → (a : A) × (o ≡ Some a) × (f a ≡ Some b)
unfolding and_then
then_some None f b e = let z : ◌≡◌ {A = ℕ} 0 1 = cc in absurd (omega arith)
then_some (Some a) f b e = (a, refl, e)

then_then : {A B C : Type 0} (o : Option A) (f : A → Option B) (g : B → Option C) (h : A → Option C)
    → ((a : A) → h a ≡ and_then (f a) g) → and_then o h ≡ and_then (and_then o f) g
unfolding and_then
then_then None f g h e = refl
then_then (Some a) f g h e = e a

pub spelled_append : (v : ℕ) (xs ys : List ℕ) → spelled v (xs ++ ys) ≡ and_then (spelled v xs) (λ w. spelled w ys)
unfolding spelled and_then
spelled_append v [] ys = refl
spelled_append v (b ∷ xs) ys = then_then (push v b) (λ w. spelled w xs) (λ w. spelled w ys) (λ w. spelled w (xs ++ ys)) (λ w. spelled_append w xs ys)

-- ---- a number's text, by its length and first digit

pub no_text : (s : List ℕ) → length s ≡ 0 → number_of s ≡ None
unfolding number_of
no_text [] e = refl
no_text (b ∷ s) e = absurd (omega arith)

pub one_digit : (s : List ℕ) → length s ≡ 1 → number_of s ≡ spelled 0 s
unfolding number_of
one_digit [] e = absurd (omega arith)
one_digit (b ∷ []) e = refl
one_digit (b ∷ c ∷ s) e = absurd (omega arith)

pub leading_zero : (s : List ℕ) → 1 < length s → get_or s 0 0 ≡ 48 → number_of s ≡ None
unfolding number_of
leading_zero [] h e = absurd (omega arith)
leading_zero (b ∷ []) h e = absurd (omega arith)
leading_zero (b ∷ c ∷ s) h e = rw e

pub no_leading_zero : (s : List ℕ) → 0 < length s → (get_or s 0 0 ≡ 48 → ⊥) → number_of s ≡ spelled 0 s
unfolding number_of
no_leading_zero [] h e = absurd (omega arith)
no_leading_zero (b ∷ []) h e = refl
no_leading_zero (b ∷ c ∷ s) h e = rw (ne_eqb b 48 e)

-- what spells no number is none
pub spells_none : (s : List ℕ) → spelled 0 s ≡ None → number_of s ≡ None
unfolding number_of
spells_none [] e = refl
spells_none (b ∷ []) e = e
spells_none (b ∷ c ∷ s) e = by (eqb b 48) (λ q. rw q) (λ q. rw q e)
