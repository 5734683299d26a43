-- Laws of hexadecimal text: digits, the way there and back, and what the loops do.
use mathlib.Core.Path.{◌≡◌, refl, sym, ap, ◌∙◌}
use mathlib.Core.Bool.{true, false, ◌&&◌}
use mathlib.Core.List.{List, [], ◌∷◌, ◌++◌}
use Rattle.std.specs.Prelude.{Option, Some, None}
use Prim.Native.Nat.{ℕ, zero, suc, ◌+◌, ◌-◌, ◌*◌, ◌/◌, ◌%◌, ◌≤◌, ◌<◌}
use native.Mathlib.Numerals.{add-one}
use native.Mathlib.Omega.{arith}
use borrow.Author.Tests.{lt-ltb, le-ltb, ltb-true, eqb-true, eq-eqb, ne_eqb}
use lib.Dec.{ltb, eqb}
use lib.ListN.{length, take, get_or}
use lib.Seq.{take-suc, length-take-le}
use Rattle.area.specs.Area.{onto}
use Rattle.lists.proofs.Tests.{impossible, by, by_lt}
use Rattle.area.proofs.Laws.{onto_onto}
use Rattle.area.proofs.Each.{Above, Below, each_none, each_more}
use Rattle.hexadecimal.specs.Hex.{hex_digit, hex, is_digit, digit_value, only_digits, unhex, spells_bytes, hex_bytes}

-- ---- one digit

module _ (b : ℕ) where
  pub digit_low : b < 58 → is_digit b ≡ ltb 47 b
  unfolding is_digit
  digit_low h = rw (lt-ltb b 58 h)

  pub digit_high : 58 ≤ b → b < 103 → is_digit b ≡ ltb 96 b
  unfolding is_digit
  digit_high h g = rw (le-ltb b 58 h, lt-ltb b 103 g)

  pub digit_none : 103 ≤ b → is_digit b ≡ false
  unfolding is_digit
  digit_none h = rw (le-ltb b 58 (omega arith), le-ltb b 103 h)

  pub value_low : b < 58 → digit_value b ≡ b - 48
  unfolding digit_value
  value_low h = rw (lt-ltb b 58 h)

  pub value_high : 58 ≤ b → digit_value b ≡ b - 87
  unfolding digit_value
  value_high h = rw (le-ltb b 58 h)

  -- a digit is one of two runs
  pub digit_cases : {P : Type 0} → is_digit b ≡ true → (48 ≤ b → b < 58 → P) → (97 ≤ b → b < 103 → P) → P
  digit_cases t f g =
      by_lt b 58
      (λ _ h. f (ltb-true 47 b (sym (digit_low h) ∙ t)) h)
      (λ _ h. by_lt b 103
      (λ _ k. g (ltb-true 96 b (sym (digit_high h k) ∙ t)) k)
      (λ _ k. impossible (sym (digit_none k) ∙ t)))

module _ (d : ℕ) where
  pub hex_low : d < 10 → hex_digit d ≡ 48 + d
  unfolding hex_digit
  hex_low h = rw (lt-ltb d 10 h)

  pub hex_high : 10 ≤ d → hex_digit d ≡ 87 + d
  unfolding hex_digit
  hex_high h = rw (le-ltb d 10 h)

  hex_is_digit : d < 16 → is_digit (hex_digit d) ≡ true
  hex_is_digit h =
      by_lt d 10
      (λ _ p. rw (hex_low p, digit_low (48 + d) (omega arith)) (lt-ltb 47 (48 + d) (omega arith)))
      (λ _ p. rw (hex_high p, digit_high (87 + d) (omega arith) (omega arith)) (lt-ltb 96 (87 + d) (omega arith)))

  hex_value : d < 16 → digit_value (hex_digit d) ≡ d
  hex_value h =
      by_lt d 10
      (λ _ p. rw (hex_low p, value_low (48 + d) (omega arith)) (omega arith))
      (λ _ p. rw (hex_high p, value_high (87 + d) (omega arith)) (omega arith))

  hex_above : 44 < hex_digit d
  hex_above =
      by_lt d 10
      (λ _ p. rw (hex_low p) (omega arith))
      (λ _ p. rw (hex_high p) (omega arith))

pub value_below : (b : ℕ) → is_digit b ≡ true → digit_value b < 16
value_below b t =
    digit_cases b t
    (λ p q. rw (value_low b q) (omega arith))
    (λ p q. rw (value_high b (omega arith)) (omega arith))

pub value_is : (b : ℕ) → is_digit b ≡ true → b % 16 + 9 * (b / 64) ≡ digit_value b
value_is b t =
    digit_cases b t
    (λ p q. rw (value_low b q) (omega arith))
    (λ p q. rw (value_high b (omega arith)) (omega arith))

value_hex : (b : ℕ) → is_digit b ≡ true → hex_digit (digit_value b) ≡ b
value_hex b t =
    digit_cases b t
    (λ p q. rw (value_low b q, hex_low (b - 48) (omega arith)) (omega arith))
    (λ p q. rw (value_high b (omega arith), hex_high (b - 87) (omega arith)) (omega arith))

-- ---- texts

pub digits_head : (b : ℕ) (s : List ℕ) → only_digits (b ∷ s) ≡ true → (is_digit b ≡ true) × (only_digits s ≡ true)
unfolding only_digits
digits_head b s t =
    by (is_digit b)
    (λ e. (e, rw e at t))
    (λ e. impossible (rw e at t))

pub digits_at : (s : List ℕ) (i : ℕ) → i < length s → only_digits s ≡ true → is_digit (get_or s i 0) ≡ true
digits_at [] i h t = absurd (omega arith)
digits_at (b ∷ s) zero h t = (digits_head b s t).0
digits_at (b ∷ s) (suc i) h t = digits_at s i (omega arith) (digits_head b s t).1

-- a turn of the loop that looks at each digit
digits_append : (s : List ℕ) (b : ℕ) → only_digits (s ++ (b ∷ [])) ≡ (only_digits s && is_digit b)
unfolding only_digits
digits_append [] b = by (is_digit b) (λ e. rw e) (λ e. rw e)
digits_append (a ∷ s) b = by (is_digit a) (λ e. rw e (digits_append s b)) (λ e. rw e)

pub digits_turn : (s : List ℕ) (i : ℕ) → i < length s → only_digits (take (i + 1) s) ≡ (only_digits (take i s) && is_digit (get_or s i 0))
digits_turn s i h = rw (add-one, take-suc s i 0 h) (digits_append (take i s) (get_or s i 0))

pub unhex_length : (n : ℕ) (s : List ℕ) → length s ≡ 2 * n → length (unhex s) ≡ n
unfolding unhex
unhex_length zero [] e = refl
unhex_length zero (a ∷ s) e = absurd (omega arith)
unhex_length (suc n) [] e = absurd (omega arith)
unhex_length (suc n) (a ∷ []) e = absurd (omega arith)
unhex_length (suc n) (a ∷ b ∷ s) e = ap suc (unhex_length n s (omega arith))

pub unhex_at : (i : ℕ) (s : List ℕ) → 2 * i + 1 < length s
    → get_or (unhex s) i 0 ≡ 16 * digit_value (get_or s (2 * i) 0) + digit_value (get_or s (2 * i + 1) 0)
unfolding unhex
unhex_at i [] h = absurd (omega arith)
unhex_at i (a ∷ []) h = absurd (omega arith)
unhex_at zero (a ∷ b ∷ s) h = refl
unhex_at (suc i) (a ∷ b ∷ s) h =
    let e : 2 * suc i ≡ suc (suc (2 * i)) = omega arith in
    let f : 2 * suc i + 1 ≡ suc (suc (2 * i + 1)) = omega arith in
    let first : get_or (a ∷ b ∷ s) (2 * suc i) 0 ≡ get_or s (2 * i) 0 = ap (λ (k : ℕ). get_or (a ∷ b ∷ s) k 0) e in
    let second : get_or (a ∷ b ∷ s) (2 * suc i + 1) 0 ≡ get_or s (2 * i + 1) 0 = ap (λ (k : ℕ). get_or (a ∷ b ∷ s) k 0) f in
    unhex_at i s (omega arith) ∙ (cc)

hex_append : (xs ys : List ℕ) → hex (xs ++ ys) ≡ hex xs ++ hex ys
unfolding hex
hex_append [] ys = refl
hex_append (b ∷ xs) ys = rw (hex_append xs ys)

pub hex_length : (bs : List ℕ) → length (hex bs) ≡ 2 * length bs
unfolding hex
hex_length [] = refl
hex_length (b ∷ bs) = rw (hex_length bs) (omega arith)

pub hex_all_above : (bs : List ℕ) → Above 44 (hex bs)
unfolding hex
hex_all_above [] = each_none
hex_all_above (b ∷ bs) = each_more (hex_above (b / 16)) (each_more (hex_above (b % 16)) (hex_all_above bs))

-- a turn of the loop that writes
pub encode_turn : (at i : ℕ) (bs l : List ℕ) → i < length bs → at + 2 * length bs ≤ length l
    → onto (at + 2 * i) (hex (get_or bs i 0 ∷ [])) (onto at (hex (take i bs)) l) ≡ onto at (hex (take (i + 1) bs)) l
encode_turn at i bs l h r =
    let lt : length (take i bs) ≡ i = length-take-le i bs (omega arith) in
    let le : 2 * i ≡ length (hex (take i bs)) = sym (hex_length (take i bs) ∙ ap (λ (k : ℕ). 2 * k) lt) in
    ap (λ (k : ℕ). onto (at + k) (hex (get_or bs i 0 ∷ [])) (onto at (hex (take i bs)) l)) le
    ∙ onto_onto at (hex (take i bs)) (hex (get_or bs i 0 ∷ [])) l (omega arith)
    ∙ ap (λ (t : List ℕ). onto at t l) (sym (hex_append (take i bs) (get_or bs i 0 ∷ [])) ∙ ap hex (sym (take-suc bs i 0 h)))
    ∙ ap (λ (k : ℕ). onto at (hex (take k bs)) l) (sym (add-one i))

-- ---- there and back

hex_digits : {bs : List ℕ} → Below 256 bs → only_digits (hex bs) ≡ true
unfolding hex only_digits
hex_digits each_none = refl
hex_digits (each_more {x = b} {xs = bs} h r) = rw (hex_is_digit (b / 16) (omega arith), hex_is_digit (b % 16) (omega arith), hex_digits r)

unhex_hex : {bs : List ℕ} → Below 256 bs → unhex (hex bs) ≡ bs
unfolding hex unhex
unhex_hex each_none = refl
unhex_hex (each_more {x = b} {xs = bs} h r) =
    let e : 16 * (b / 16) + b % 16 ≡ b = omega arith in
    rw (hex_value (b / 16) (omega arith), hex_value (b % 16) (omega arith), e, unhex_hex r)

-- bytes are read back from their text
pub bytes_there : (n : ℕ) {bs : List ℕ} → Below 256 bs → length bs ≡ n → hex_bytes n (hex bs) ≡ Some bs
unfolding hex_bytes spells_bytes
bytes_there n {bs} h e =
    rw (eq-eqb (length (hex bs)) (2 * n) (hex_length bs ∙ ap (λ (k : ℕ). 2 * k) e), hex_digits h, unhex_hex h)

hex_unhex : (n : ℕ) (s : List ℕ) → length s ≡ 2 * n → only_digits s ≡ true → hex (unhex s) ≡ s
unfolding hex unhex
hex_unhex n [] e t = refl
hex_unhex zero (a ∷ s) e t = absurd (omega arith)
hex_unhex (suc n) (a ∷ []) e t = absurd (omega arith)
hex_unhex (suc n) (a ∷ b ∷ s) e t =
    let ha = digits_head a (b ∷ s) t in
    let hb = digits_head b s ha.1 in
    let va = value_below a ha.0 in
    let vb = value_below b hb.0 in
    let q : (16 * digit_value a + digit_value b) / 16 ≡ digit_value a = omega arith in
    let r : (16 * digit_value a + digit_value b) % 16 ≡ digit_value b = omega arith in
    rw (q, r, value_hex a ha.0, value_hex b hb.0, hex_unhex n s (omega arith) hb.1)

unhex_bytes : (n : ℕ) (s : List ℕ) → length s ≡ 2 * n → only_digits s ≡ true → Below 256 (unhex s)
unfolding unhex
unhex_bytes n [] e t = each_none
unhex_bytes zero (a ∷ s) e t = absurd (omega arith)
unhex_bytes (suc n) (a ∷ []) e t = absurd (omega arith)
unhex_bytes (suc n) (a ∷ b ∷ s) e t =
    let ha = digits_head a (b ∷ s) t in
    let hb = digits_head b s ha.1 in
    let va = value_below a ha.0 in
    let vb = value_below b hb.0 in
    each_more {x = 16 * digit_value a + digit_value b} (omega arith) (unhex_bytes n s (omega arith) hb.1)

pub is_bytes : (n : ℕ) (s : List ℕ) → spells_bytes n s ≡ true → (length s ≡ 2 * n) × (only_digits s ≡ true)
unfolding spells_bytes
is_bytes n s t =
    by (eqb (length s) (2 * n))
    (λ e. (eqb-true (length s) (2 * n) e, rw e at t))
    (λ e. impossible (rw e at t))

pub wrong_length : (n : ℕ) (s : List ℕ) → (length s ≡ 2 * n → ⊥) → spells_bytes n s ≡ false
unfolding spells_bytes
wrong_length n s h = rw (ne_eqb (length s) (2 * n) h)

pub right_length : (n : ℕ) (s : List ℕ) → length s ≡ 2 * n → spells_bytes n s ≡ only_digits s
unfolding spells_bytes
right_length n s h = rw (eq-eqb (length s) (2 * n) h)

pub record ReadBytes (n : ℕ) (s bs : List ℕ) : Type 0 where
  pub count : length bs ≡ n
  pub small : Below 256 bs
  pub text : hex bs ≡ s
  pub value : bs ≡ unhex s

-- a text that is read as bytes is their text
pub bytes_back : (n : ℕ) (s bs : List ℕ) → hex_bytes n s ≡ Some bs → ReadBytes n s bs
unfolding hex_bytes
bytes_back n s bs e =
    by (spells_bytes n s)
    (λ t.
    let g : Some (unhex s) ≡ Some bs = rw t at e in
    let same : bs ≡ unhex s = cc in
    let i = is_bytes n s t in
    record {
      count = ap length same ∙ unhex_length n s i.0;
      small = rw same (unhex_bytes n s i.0 i.1);
      text = ap hex same ∙ hex_unhex n s i.0 i.1;
      value = same;
    })
    (λ t. let z : ◌≡◌ {A = Option (List ℕ)} None (Some bs) = rw t at e in let y : ◌≡◌ {A = ℕ} 0 1 = cc in absurd (omega arith))
