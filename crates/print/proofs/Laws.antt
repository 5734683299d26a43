-- Laws of the steps of print.
use mathlib.Core.Path.{◌≡◌, refl, sym, ap, ◌∙◌}
use mathlib.Core.Bool.{Bool, true, false, cond}
use mathlib.Core.List.{List, [], ◌∷◌, ◌++◌, map, append-nil, append_assoc}
use Prim.Native.Nat.{ℕ, zero, suc, ◌+◌, ◌*◌, ◌^◌, ◌≤◌, ◌<◌}
use native.Mathlib.Omega.{arith}
use borrow.Author.Tests.{le-leb, lt-leb}
use lib.ListN.{length, take, get_or, length-append}
use lib.Seq.{length-take-le}
use Rattle.area.specs.Area.{onto}
use Rattle.lists.proofs.Tests.{by, by_lt}
use Rattle.area.proofs.Laws.{onto_then, onto_nothing}
use Rattle.area.proofs.Each.{Below, each_none, each_more}
use Rattle.decimal.specs.Decimal.{decimal}
use Rattle.hexadecimal.specs.Hex.{hex}
use Rattle.hexadecimal.proofs.Laws.{hex_length}
use Rattle.text.specs.Table.{shape_of}
use Rattle.text.specs.declared.Shape.{Shape}
use Rattle.rules.specs.Event.{kind_count, kind_at, EventFields, fields_brought}
use Rattle.text.specs.Fields.{comma, parted}
use Rattle.text.specs.Lines.{longest, line_feed, field_texts, line_of, is_well_formed}
use Rattle.lists.specs.Tests.{◌and◌}
use Rattle.text.proofs.Laws.{form_ok, row_len, row_numbers, row_payload}
use Rattle.text.proofs.Fields.{parted_append}
use Rattle.text.proofs.RoundTrip.{WellFormed, well_formed, formed_well}
use Rattle.print.specs.Answers.{can_print, printed, line_after}
use Rattle.print.specs.Steps.{number_texts, length_of_line}
use Rattle.std.specs.Prelude.{Option, Some, None}

-- ---- the numbers

module _ (n a b c : ℕ) where
  texts_0 : n ≡ 0 → number_texts n a b c ≡ []
  unfolding number_texts parted
  texts_0 e = rw e

  texts_1 : n ≡ 1 → number_texts n a b c ≡ comma ∷ decimal a
  unfolding number_texts parted
  texts_1 e = rw (e, append-nil)

  texts_2 : n ≡ 2 → number_texts n a b c ≡ (comma ∷ decimal a) ++ (comma ∷ decimal b)
  unfolding number_texts parted
  texts_2 e = rw (e, append-nil)

  texts_3 : n ≡ 3 → number_texts n a b c ≡ ((comma ∷ decimal a) ++ (comma ∷ decimal b)) ++ (comma ∷ decimal c)
  unfolding number_texts parted
  texts_3 e = rw (e, append-nil, append_assoc)

  pub length_0 : n ≡ 0 → length (number_texts n a b c) ≡ 0
  length_0 e = ap length (texts_0 e)

  pub length_1 : n ≡ 1 → length (number_texts n a b c) ≡ 1 + length (decimal a)
  length_1 e = ap length (texts_1 e) ∙ omega arith

  pub length_2 : n ≡ 2 → length (number_texts n a b c) ≡ 1 + length (decimal a) + (1 + length (decimal b))
  length_2 e = ap length (texts_2 e) ∙ length-append (comma ∷ decimal a) (comma ∷ decimal b) ∙ omega arith

  pub length_3 : n ≡ 3 → length (number_texts n a b c) ≡ 1 + length (decimal a) + (1 + length (decimal b)) + (1 + length (decimal c))
  length_3 e =
      ap length (texts_3 e) ∙ length-append ((comma ∷ decimal a) ++ (comma ∷ decimal b)) (comma ∷ decimal c)
      ∙ omega (arith, length-append (comma ∷ decimal a) (comma ∷ decimal b))

  -- enough room for all of the numbers is enough for the first ones
  pub room_1 : 1 ≤ n → n ≤ 3 → 1 + length (decimal a) ≤ length (number_texts n a b c)
  room_1 h g =
      by_lt n 2 (λ _ p. omega (arith, length_1 (omega arith)))
      (λ _ p. by_lt n 3 (λ _ q. omega (arith, length_2 (omega arith))) (λ _ q. omega (arith, length_3 (omega arith))))

  pub room_2 : 2 ≤ n → n ≤ 3 → 1 + length (decimal a) + (1 + length (decimal b)) ≤ length (number_texts n a b c)
  room_2 h g = by_lt n 3 (λ _ q. omega (arith, length_2 (omega arith))) (λ _ q. omega (arith, length_3 (omega arith)))

-- ---- the line's event

-- what follows the numbers
pub tail : Bool → List ℕ → List ℕ
tail p bs = cond p (comma ∷ hex bs) []

tail_text : (p : Bool) (bs : List ℕ) → parted (cond p (hex (cond p bs []) ∷ []) []) ≡ tail p bs
unfolding parted tail
tail_text true bs = rw append-nil
tail_text false bs = refl

line_fields : (k a b c : ℕ) (bs : List ℕ)
    → line_of (fields_brought k a b c bs) ≡ (((kind_at k).word ++ number_texts (kind_at k).numbers a b c) ++ tail (kind_at k).payload bs) ++ (line_feed ∷ [])
unfolding line_of field_texts fields_brought number_texts
line_fields k a b c bs =
    let ns : List (List ℕ) = map decimal (take (kind_at k).numbers (a ∷ b ∷ c ∷ [])) in
    rw (parted_append ns (cond (kind_at k).payload (hex (cond (kind_at k).payload bs []) ∷ []) []), tail_text (kind_at k).payload bs)
    (simp append_assoc)

module _ (k a b c : ℕ) (bs : List ℕ) where
  pub line_length : length (line_of (fields_brought k a b c bs)) ≡ length (kind_at k).word + length (number_texts (kind_at k).numbers a b c) + length
      (tail (kind_at k).payload bs) + 1
  line_length =
      ap length (line_fields k a b c bs)
      ∙ rw (length-append, length-append, length-append)

  pub loaded_length : (kind_at k).payload ≡ true
      → length (line_of (fields_brought k a b c bs)) ≡ length (kind_at k).word + length (number_texts (kind_at k).numbers a b c) + (1 + 2 * length bs) + 1
  unfolding tail
  loaded_length e = line_length ∙ rw (e, hex_length bs) (omega arith)

  pub plain_length : (kind_at k).payload ≡ false
      → length (line_of (fields_brought k a b c bs)) ≡ length (kind_at k).word + length (number_texts (kind_at k).numbers a b c) + 1
  unfolding tail
  plain_length e = line_length ∙ rw e (omega arith)

  -- what the calls that write the word and the numbers leave, and where
  pub record Fronted (l m1 m2 : List ℕ) (at next : ℕ) : Type 0 where
    pub fits : length (line_of (fields_brought k a b c bs)) ≤ length l
    pub first : m1 ≡ onto 0 (kind_at k).word l
    pub second : m2 ≡ onto at (number_texts (kind_at k).numbers a b c) m1
    pub place : at ≡ length (kind_at k).word
    pub after : next ≡ at + length (number_texts (kind_at k).numbers a b c)
    pub same : length m2 ≡ length l

  pub fronted : (l m1 m2 : List ℕ) (at next : ℕ) (r : Shape) → r ≡ shape_of (kind_at k) → length (line_of (fields_brought k a b c bs)) ≤ length l
      → at ≡ length (kind_at k).word → m1 ≡ onto 0 (kind_at k).word l → next ≡ at + length (number_texts r.numbers a b c)
      → m2 ≡ onto at (number_texts r.numbers a b c) m1 → length m2 ≡ length l → Fronted l m1 m2 at next
  fronted l m1 m2 at next r e fits place first after second same =
      let n = row_numbers (kind_at k) r e in
      record { fits = fits; first = first; second = rw n at second; place = place; after = rw n at after; same = same }

  module _ (l m1 m2 : List ℕ) (at next : ℕ) (f : Fronted l m1 m2 at next) where
    front : m2 ≡ onto 0 ((kind_at k).word ++ number_texts (kind_at k).numbers a b c) l
    front = onto_then 0 at (kind_at k).word (number_texts (kind_at k).numbers a b c) l m1 m2 (omega (arith, line_length)) (omega arith) f.first f.second

    front_length : length ((kind_at k).word ++ number_texts (kind_at k).numbers a b c) ≡ next
    front_length = length-append (kind_at k).word (number_texts (kind_at k).numbers a b c) ∙ omega arith

    pub plain_line : (m3 : List ℕ) → (kind_at k).payload ≡ false → m3 ≡ onto next (line_feed ∷ []) m2 → m3 ≡ onto 0 (line_of (fields_brought k a b c bs)) l
    unfolding tail
    plain_line m3 e e3 =
        let fl = front_length in
        onto_then 0 next ((kind_at k).word ++ number_texts (kind_at k).numbers a b c) (line_feed ∷ []) l m2 m3 (omega (arith, line_length))
        (omega arith) front e3
        ∙ ap (λ (t : List ℕ). onto 0 t l) (sym (line_fields k a b c bs ∙ rw (e, append-nil)))

    pub loaded_line : (m3 m4 : List ℕ) (end : ℕ) → (kind_at k).payload ≡ true → m3 ≡ onto next (comma ∷ hex bs) m2 → end ≡ next + (1 + 2 * length bs)
        → m4 ≡ onto end (line_feed ∷ []) m3 → m4 ≡ onto 0 (line_of (fields_brought k a b c bs)) l
    unfolding tail
    loaded_line m3 m4 end e e3 eend e4 =
        let fl = front_length in
        let n = loaded_length e in
        let h = hex_length bs in
        let whole : List ℕ = ((kind_at k).word ++ number_texts (kind_at k).numbers a b c) ++ (comma ∷ hex bs) in
        let w : length whole ≡ end = length-append ((kind_at k).word ++ number_texts (kind_at k).numbers a b c) (comma ∷ hex bs) ∙ omega arith in
        let third : m3 ≡ onto 0 whole l =
        onto_then 0 next ((kind_at k).word ++ number_texts (kind_at k).numbers a b c) (comma ∷ hex bs) l m2 m3 (omega arith) (omega arith) front e3 in
        onto_then 0 end whole (line_feed ∷ []) l m3 m4 (omega arith) (omega arith) third e4
        ∙ ap (λ (t : List ℕ). onto 0 t l) (sym (line_fields k a b c bs ∙ rw e))

-- ---- which events are well formed

pub below_all : (n : ℕ) (s : List ℕ) → ((i : ℕ) → get_or s i 0 < n) → Below n s
below_all n [] h = each_none
below_all n (x ∷ s) h = each_more (h 0) (below_all n s (λ i. h (suc i)))

below_take : {n : ℕ} (k : ℕ) {l : List ℕ} → Below n l → Below n (take k l)
below_take zero h = each_none
below_take (suc k) each_none = each_none
below_take (suc k) (each_more h r) = each_more h (below_take k r)

pub unformed : (S : ℕ) (e : EventFields) → (WellFormed S e → ⊥) → length_of_line S e ≡ None
unfolding length_of_line
unformed S e h = by (is_well_formed S e) (λ t. absurd (h (well_formed S e t))) (λ f. rw f)

payload_size : (p : Bool) (S : ℕ) (bs : List ℕ) → (p ≡ true → length bs ≡ S) → length (cond p bs []) ≡ cond p S 0
payload_size true S bs h = h refl
payload_size false S bs h = refl

payload_small : (p : Bool) (bs : List ℕ) → Below 256 bs → Below 256 (cond p bs [])
payload_small true bs h = h
payload_small false bs h = each_none

module _ (S k a b c : ℕ) (bs : List ℕ) where
  well : 1 ≤ k → k ≤ kind_count → a < 2 ^ 64 → b < 2 ^ 64 → c < 2 ^ 64 → Below 256 bs → ((kind_at k).payload ≡ true → length bs ≡ S)
      → length (line_of (fields_brought k a b c bs)) ≤ longest → WellFormed S (fields_brought k a b c bs)
  unfolding fields_brought
  well h g ha hb hc hbs hs hl =
      record {
        least = h;
        most = g;
        arity = length-take-le (kind_at k).numbers (a ∷ b ∷ c ∷ []) (form_ok k h g).few;
        fit = below_take (kind_at k).numbers (each_more ha (each_more hb (each_more hc each_none)));
        size = payload_size (kind_at k).payload S bs hs;
        small = payload_small (kind_at k).payload bs hbs;
        short = hl;
      }

  pub formed : 1 ≤ k → k ≤ kind_count → a < 2 ^ 64 → b < 2 ^ 64 → c < 2 ^ 64 → Below 256 bs → ((kind_at k).payload ≡ true → length bs ≡ S)
      → length (line_of (fields_brought k a b c bs)) ≤ longest → length_of_line S (fields_brought k a b c bs) ≡ Some (length (line_of (fields_brought k a b c bs)))
  unfolding length_of_line
  formed h g ha hb hc hbs hs hl = rw (formed_well S (fields_brought k a b c bs) (well h g ha hb hc hbs hs hl))

  pub loaded_size : (kind_at k).payload ≡ true → WellFormed S (fields_brought k a b c bs) → length bs ≡ S
  unfolding fields_brought
  loaded_size e w = rw e at w.size

  pub kind_of : (fields_brought k a b c bs).kind ≡ k
  unfolding fields_brought
  kind_of = refl

-- what the code knows of a kind's line before its data
pub record Known (k a b c word count : ℕ) (p : Bool) : Type 0 where
  pub least : 1 ≤ k
  pub most : k ≤ kind_count
  pub front : word + count ≡ length (kind_at k).word + length (number_texts (kind_at k).numbers a b c)
  pub bound : word + count ≤ 70
  pub payload : p ≡ (kind_at k).payload

pub known : (k a b c count : ℕ) (r : Shape) → 1 ≤ k → k ≤ kind_count → r ≡ shape_of (kind_at k) → count ≡ length (number_texts r.numbers a b c) → count ≤ 63
    → Known k a b c r.len count r.payload
known k a b c count r h g e n m =
    let len = row_len (kind_at k) r e in
    let short = (form_ok k h g).short in
    let texts = ap (λ (i : ℕ). length (number_texts i a b c)) (row_numbers (kind_at k) r e) in
    record { least = h; most = g; front = omega arith; bound = omega arith; payload = row_payload (kind_at k) r e }

pub few_numbers : (k : ℕ) (r : Shape) → 1 ≤ k → k ≤ kind_count → r ≡ shape_of (kind_at k) → r.numbers ≤ 3
few_numbers k r h g e =
    let n = row_numbers (kind_at k) r e in
    let few = (form_ok k h g).few in
    omega arith

-- ---- what is answered and left

module _ (S : ℕ) (e : EventFields) (l : List ℕ) where
  pub not_printed : can_print S e (length l) ≡ false → (None ≡ printed S e (length l)) × (l ≡ line_after S e l)
  unfolding printed line_after
  not_printed f = (rw f, rw f)

  pub is_printed : (n : ℕ) (m : List ℕ) → can_print S e (length l) ≡ true → n ≡ length (line_of e) → m ≡ onto 0 (line_of e) l
      → (Some n ≡ printed S e (length l)) × (m ≡ line_after S e l)
  unfolding printed line_after
  is_printed n m t en em = (rw (t, en), rw t em)

  pub not_formed : None ≡ length_of_line S e → can_print S e (length l) ≡ false
  unfolding length_of_line can_print ◌and◌
  not_formed d = by (is_well_formed S e) (λ t. let z : ◌≡◌ {A = Option ℕ} None (Some (length (line_of e))) = rw t at d in cc) (λ f. rw f)

  pub is_formed : (n : ℕ) → Some n ≡ length_of_line S e → (is_well_formed S e ≡ true) × (n ≡ length (line_of e))
  unfolding length_of_line
  is_formed n d =
      by (is_well_formed S e)
      (λ t. let z : ◌≡◌ {A = Option ℕ} (Some n) (Some (length (line_of e))) = rw t at d in (t, cc))
      (λ f. let z : ◌≡◌ {A = Option ℕ} (Some n) None = rw f at d in cc)

  pub no_room : is_well_formed S e ≡ true → length l < length (line_of e) → can_print S e (length l) ≡ false
  unfolding can_print ◌and◌
  no_room t h = rw (t, lt-leb (length (line_of e)) (length l) h)

  pub room_enough : is_well_formed S e ≡ true → length (line_of e) ≤ length l → can_print S e (length l) ≡ true
  unfolding can_print ◌and◌
  room_enough t h = rw (t, le-leb (length (line_of e)) (length l) h)

-- ---- what the calls that write numbers leave

module _ (n a b c at : ℕ) (l : List ℕ) where
  pub numbers_0 : n ≡ 0 → (at ≡ at + length (number_texts n a b c)) × (l ≡ onto at (number_texts n a b c) l)
  numbers_0 e =
      let k = length_0 n a b c e in
      (omega arith, rw (texts_0 n a b c e) (sym (onto_nothing at l)))

  module _ (x : ℕ) (m : List ℕ) (ex : x ≡ at + (1 + length (decimal a))) (em : m ≡ onto at (comma ∷ decimal a) l) where
    pub numbers_1 : n ≡ 1 → (x ≡ at + length (number_texts n a b c)) × (m ≡ onto at (number_texts n a b c) l)
    numbers_1 e =
        let k = length_1 n a b c e in
        (omega arith, rw (texts_1 n a b c e) em)

    module _ (y : ℕ) (m2 : List ℕ) (ey : y ≡ x + (1 + length (decimal b))) (em2 : m2 ≡ onto x (comma ∷ decimal b) m)
        (room : at + length (number_texts n a b c) ≤ length l) where
      two : 2 ≤ n → n ≤ 3 → m2 ≡ onto at ((comma ∷ decimal a) ++ (comma ∷ decimal b)) l
      two h g =
          let k = room_2 n a b c h g in
          onto_then at x (comma ∷ decimal a) (comma ∷ decimal b) l m m2 (omega arith) (omega arith) em em2

      pub numbers_2 : n ≡ 2 → (y ≡ at + length (number_texts n a b c)) × (m2 ≡ onto at (number_texts n a b c) l)
      numbers_2 e =
          let k = length_2 n a b c e in
          (omega arith, rw (texts_2 n a b c e) (two (omega arith) (omega arith)))

      pub numbers_3 : n ≡ 3 → (z : ℕ) (m3 : List ℕ) → z ≡ y + (1 + length (decimal c)) → m3 ≡ onto y (comma ∷ decimal c) m2
          → (z ≡ at + length (number_texts n a b c)) × (m3 ≡ onto at (number_texts n a b c) l)
      numbers_3 e z m3 ez em3 =
          let k = length_3 n a b c e in
          let w = length-append (comma ∷ decimal a) (comma ∷ decimal b) in (
            omega arith,
            rw (texts_3 n a b c e)
                (onto_then at y ((comma ∷ decimal a) ++ (comma ∷ decimal b)) (comma ∷ decimal c) l m2 m3 (omega arith) (omega arith)
                (two (omega arith) (omega arith)) em3),
          )
