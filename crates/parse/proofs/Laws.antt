-- Laws of the steps of parse.
use mathlib.Core.Path.{◌≡◌, refl, sym, ap, ◌∙◌}
use mathlib.Core.Bool.{Bool, true, false}
use mathlib.Core.List.{List, [], ◌∷◌, ◌++◌, append-nil}
use Rattle.std.specs.Prelude.{Option, Some, None}
use Prim.Native.Nat.{ℕ, zero, suc, ◌+◌, ◌-◌, ◌*◌, ◌≤◌, ◌<◌}
use native.Mathlib.Numerals.{add-one}
use native.Mathlib.Omega.{arith}
use borrow.Author.Tests.{le-leb, lt-leb, eq-eqb, ne_eqb}
use lib.Dec.{eqb}
use lib.ListN.{length, take, drop, get_or, length-append, length-drop, drop_of_length-le}
use lib.Seq.{drop-cons, take-suc, drop-drop, take_all, length-take-le, get_or-take, get_or-drop}
use Rattle.area.specs.Area.{onto}
use Rattle.lists.proofs.Tests.{by, by_lt}
use Rattle.area.proofs.Laws.{onto_nothing}
use Rattle.area.proofs.Each.{Above, each_none, each_more}
use Rattle.decimal.specs.Decimal.{push, spelled, number_of, and_then}
use Rattle.decimal.proofs.Laws.{spelled_append, spells_none}
use Rattle.hexadecimal.specs.Hex.{only_digits, unhex, spells_bytes, hex_bytes}
use Rattle.hexadecimal.proofs.Laws.{digit_cases, digits_head}
use Rattle.rules.specs.Event.{kind_count, kind_at, EventFields}
use Rattle.text.specs.Kinds.{packed_upto, packed, kind_of_packed}
use Rattle.text.specs.Fields.{comma, parted, before, fields}
use Rattle.text.specs.Lines.{Taken, taken, take_numbers, take_bytes, fields_of_kind, fields_of_texts, is_line, without_feed, read_fields}
use Rattle.text.specs.Lines.{settings_at, settings_of_fields, read_settings}
use Rattle.text.proofs.Laws.{kind_some, form_ok, row_numbers, row_payload}
use Rattle.text.specs.Table.{shape_of}
use Rattle.text.specs.declared.Shape.{Shape}
use Rattle.parse.specs.declared.Word.{Word}
use Rattle.text.proofs.Packed.{Bytes, packed_agree, kind_by_number, too_long}
use Rattle.text.proofs.Fields.{front_nothing, before_before, before_nothing, at_comma, at_other, first, fields_there, fields_back}
use Rattle.parse.specs.Answers.{has_data, with_room, parsed, answer_to, bytes_read, settings_answer}
use Rattle.parse.specs.Steps.{fields_from, first_number, rest, first_kind, Named, Closed, Next, Three, Found}
use Rattle.text.specs.declared.Event.{Event}
use Rattle.rules.specs.declared.settings.Settings.{Settings}

-- ---- fields by position

module _ (s : List ℕ) where
  pub from_within : (p : ℕ) → p ≤ length s → fields_from s p ≡ fields (drop p s)
  unfolding fields_from
  from_within p h = rw (le-leb p (length s) h)

  pub from_past : (p : ℕ) → length s < p → fields_from s p ≡ []
  unfolding fields_from
  from_past p h = rw (lt-leb p (length s) h)

  from_from : (at p : ℕ) → at ≤ length s → fields_from (drop at s) p ≡ fields_from s (at + p)
  unfolding fields_from
  from_from at p h =
      by_lt (length (drop at s)) p
      (λ _ q.
      let n = length-drop at s in
      rw (lt-leb p (length (drop at s)) q, lt-leb (at + p) (length s) (omega arith)))
      (λ _ q.
      let n = length-drop at s in
      rw (le-leb p (length (drop at s)) q, le-leb (at + p) (length s) (omega arith), drop-drop p at s))

-- ---- where a field ends

module _ (s : List ℕ) (i : ℕ) (inv : fields s ≡ before (take i s) (fields (drop i s))) where
  pub end_turn : i < length s → (get_or s i 0 ≡ comma → ⊥) → fields s ≡ before (take (i + 1) s) (fields (drop (i + 1) s))
  end_turn h e =
      inv ∙ rw (
        drop-cons s i 0 h,
        at_other (get_or s i 0) (drop (suc i) s) e,
        before_before (take i s) (get_or s i 0 ∷ [])
            (fields (drop (suc i) s)),
        add-one,
        take-suc s i 0 h,
      )

  pub end_comma : i < length s → get_or s i 0 ≡ comma → fields s ≡ take i s ∷ fields_from s (i + 1)
  end_comma h e =
      inv ∙ rw (
        drop-cons s i 0 h,
        e,
        at_comma (drop (suc i) s),
        before_nothing (take i s) (fields (drop (suc i) s)),
        from_within s (i + 1)
            (omega arith),
        add-one,
      )

  pub end_text : i ≡ length s → fields s ≡ take i s ∷ fields_from s (i + 1)
  unfolding fields
  end_text e =
      let d : drop i s ≡ [] = drop_of_length-le s {i = i} (omega arith) in
      inv ∙ rw (d, before_nothing (take i s) [], from_past s (i + 1) (omega arith))

-- a field that goes on after its first i bytes
goes_on : (s : List ℕ) (i : ℕ) → fields s ≡ before (take i s) (fields (drop i s)) → i < length s → (get_or s i 0 ≡ comma → ⊥)
    → (f : List ℕ) × (fs : List (List ℕ)) × (fields s ≡ (take i s ++ (get_or s i 0 ∷ f)) ∷ fs)
unfolding before
goes_on s i inv h e =
    let f = first (drop (suc i) s) in
    (f.0, f.1, inv ∙ rw (drop-cons s i 0 h, at_other (get_or s i 0) (drop (suc i) s) e, f.2))

-- ---- the word

module _ (s : List ℕ) (i : ℕ) (h : i ≤ length s) where
  front_length : length (take i s) ≡ i
  front_length = length-take-le i s h

  front_packed : packed (take i s) ≡ packed_upto s i
  unfolding packed
  front_packed = rw front_length (packed_agree (take i s) s i (λ j q. get_or-take i s j 0 q))

  front_bytes : Bytes s (length s) → Bytes (take i s) (length (take i s))
  front_bytes b j q = let n = front_length in let e = get_or-take i s j 0 (omega arith) in let g = b j (omega arith) in omega arith

  pub word_read : (p : ℕ) → Bytes s (length s) → p ≡ packed_upto s i → fields s ≡ take i s ∷ fields_from s (i + 1)
      → Named s (record { packed = p; end = i })
  unfolding first_kind rest
  word_read p b e f =
      record { kind = rw (f, e) (kind_by_number (take i s) (front_bytes b) ∙ ap kind_of_packed front_packed); others = rw f; within = h }

-- no kind has a word of more than 7 bytes
pub word_long : (s : List ℕ) (i : ℕ) → fields s ≡ before (take i s) (fields (drop i s)) → i < length s → (get_or s i 0 ≡ comma → ⊥) → i ≡ 7
    → first_kind (fields s) ≡ None
unfolding first_kind
word_long s i inv h e seven =
    let g = goes_on s i inv h e in
    let n = front_length s i (omega arith) in
    let l = length-append (take i s) (get_or s i 0 ∷ g.0) in
    rw g.2 (too_long (take i s ++ (get_or s i 0 ∷ g.0)) (omega arith))

-- ---- a number, byte by byte

pub record Spelling (t : List ℕ) (j v : ℕ) : Type 0 where
  pub field : fields t ≡ before (take j t) (fields (drop j t))
  pub value : spelled 0 (take j t) ≡ Some v

spelling_start : (t : List ℕ) → Spelling t 0 0
unfolding spelled
spelling_start t = record { field = sym (front_nothing t); value = refl }

-- at the place where it starts
pub spelling_from : (t : List ℕ) (at : ℕ) → Spelling t (at - at) 0
spelling_from t at = let n : at - at ≡ 0 = omega arith in rw n (spelling_start t)

module _ (t : List ℕ) (j v : ℕ) (inv : Spelling t j v) (h : j < length t) (e : get_or t j 0 ≡ comma → ⊥) where
  pub spelling_turn : (w : ℕ) → push v (get_or t j 0) ≡ Some w → Spelling t (j + 1) w
  unfolding spelled and_then
  spelling_turn w p =
      record {
        field = end_turn t j inv.field h e;
        value = rw (add-one, take-suc t j 0 h, spelled_append 0 (take j t) (get_or t j 0 ∷ []), inv.value, p);
      }

  pub spelling_stop : push v (get_or t j 0) ≡ None → first_number (fields t) ≡ None
  unfolding first_number spelled and_then
  spelling_stop p =
      let g = goes_on t j inv.field h e in
      rw g.2
      (spells_none (take j t ++ (get_or t j 0 ∷ g.0)) (rw (spelled_append 0 (take j t) (get_or t j 0 ∷ g.0), inv.value, p)))

-- the same of the bytes from a place on
module _ (s : List ℕ) (at i v : ℕ) (from : at ≤ i) (to : i ≤ length s) where
  within : length (drop at s) ≡ length s - at
  within = length-drop at s

  pub there : get_or (drop at s) (i - at) 0 ≡ get_or s i 0
  there = let n : at + (i - at) ≡ i = omega arith in get_or-drop at s (i - at) 0 ∙ ap (λ (k : ℕ). get_or s k 0) n

  shifted : fields (drop at s) ≡ take (i - at) (drop at s) ∷ fields_from (drop at s) (i - at + 1)
      → fields_from s at ≡ take (i - at) (drop at s) ∷ fields_from s (i + 1)
  shifted f =
      let n : at + (i - at + 1) ≡ i + 1 = omega arith in
      from_within s at (omega arith) ∙ f ∙ ap (λ (l : List (List ℕ)). take (i - at) (drop at s) ∷ l) (from_from s at (i - at + 1) (omega arith)
      ∙ ap (fields_from s) n)

  module _ (inv : Spelling (drop at s) (i - at) v) where
    pub closed_comma : i < length s → get_or s i 0 ≡ comma → Closed s at i v
    closed_comma h e =
        let n = within in
        record { from = from; to = to; field = shifted (end_comma (drop at s) (i - at) inv.field (omega arith) (there ∙ e)); value = inv.value }

    pub closed_end : i ≡ length s → Closed s at i v
    closed_end e =
        let n = within in
        record { from = from; to = to; field = shifted (end_text (drop at s) (i - at) inv.field (omega arith)); value = inv.value }

    module _ (h : i < length s) (e : get_or s i 0 ≡ comma → ⊥) where
      inside : i - at < length (drop at s)
      inside = let n = within in omega arith

      pub number_turn : (w : ℕ) → push v (get_or s i 0) ≡ Some w → Spelling (drop at s) (i + 1 - at) w
      number_turn w p =
          let n : i - at + 1 ≡ i + 1 - at = omega arith in
          rw n at (spelling_turn (drop at s) (i - at) v inv inside (λ q. e (sym there ∙ q)) w (ap (push v) there ∙ p))

      pub number_stop : push v (get_or s i 0) ≡ None → first_number (fields_from s at) ≡ None
      number_stop p =
          ap first_number (from_within s at (omega arith)) ∙ spelling_stop (drop at s) (i - at) v inv inside (λ q. e (sym there ∙ q)) (ap (push v) there ∙ p)

-- ---- numbers

module _ (fs gs : List (List ℕ)) (f : List ℕ) (e : fs ≡ f ∷ gs) where
  pub first_is : first_number fs ≡ number_of f
  unfolding first_number
  first_is = rw e

  pub rest_is : rest fs ≡ gs
  unfolding rest
  rest_is = rw e

pub first_of_none : (fs : List (List ℕ)) → fs ≡ [] → first_number fs ≡ None
unfolding first_number
first_of_none fs e = rw e

one_more : (n v : ℕ) (fs gs : List (List ℕ)) (t : Taken) → first_number fs ≡ Some v → rest fs ≡ gs → take_numbers n gs ≡ Some t
    → take_numbers (suc n) fs ≡ Some (taken (v ∷ t.numbers) t.left)
unfolding take_numbers and_then first_number rest
one_more n v [] gs t e r h = let z : ◌≡◌ {A = ℕ} 0 1 = cc in absurd (omega arith)
one_more n v (f ∷ fs) gs t e r h = rw (e, r, h)

one_wrong : (n : ℕ) (fs : List (List ℕ)) → first_number fs ≡ None → take_numbers (suc n) fs ≡ None
unfolding take_numbers and_then first_number
one_wrong n [] e = refl
one_wrong n (f ∷ fs) e = rw e

more_wrong : (n v : ℕ) (fs gs : List (List ℕ)) → first_number fs ≡ Some v → rest fs ≡ gs → take_numbers n gs ≡ None → take_numbers (suc n) fs ≡ None
unfolding take_numbers and_then first_number rest
more_wrong n v [] gs e r h = refl
more_wrong n v (f ∷ fs) gs e r h = rw (e, r, h)

nothing_yet : (fs : List (List ℕ)) → take_numbers 0 fs ≡ Some (taken [] fs)
unfolding take_numbers
nothing_yet fs = refl

pub three_0 : (n : ℕ) (fs : List (List ℕ)) → n ≡ 0 → Three n fs 0 0 0 fs
three_0 n fs e = rw e (record { read = nothing_yet fs; first = refl; second = refl; third = refl })

pub three_1 : (n a : ℕ) (fs gs : List (List ℕ)) → n ≡ 1 → Next fs a gs → Three n fs a 0 0 gs
three_1 n a fs gs e p =
    rw e (record { read = one_more 0 a fs gs (taken [] gs) p.number p.others (nothing_yet gs); first = refl; second = refl; third = refl })

pub three_2 : (n a b : ℕ) (fs gs hs : List (List ℕ)) → n ≡ 2 → Next fs a gs → Next gs b hs → Three n fs a b 0 hs
three_2 n a b fs gs hs e p q =
    rw e
    (record {
      read = one_more 1 a fs gs (taken (b ∷ []) hs) p.number p.others
          (one_more 0 b gs hs (taken [] hs) q.number q.others (nothing_yet hs));
      first = refl;
      second = refl;
      third = refl;
    })

pub three_3 : (n a b c : ℕ) (fs gs hs is : List (List ℕ)) → n ≡ 3 → Next fs a gs → Next gs b hs → Next hs c is → Three n fs a b c is
three_3 n a b c fs gs hs is e p q r =
    rw e
    (record {
      read = one_more 2 a fs gs (taken (b ∷ c ∷ []) is) p.number p.others
          (one_more 1 b gs hs (taken (c ∷ []) is) q.number q.others
          (one_more 0 c hs is (taken [] is) r.number r.others (nothing_yet is)));
      first = refl;
      second = refl;
      third = refl;
    })

pub wrong_1 : (n : ℕ) (fs : List (List ℕ)) → 1 ≤ n → first_number fs ≡ None → take_numbers n fs ≡ None
wrong_1 zero fs h e = absurd (omega arith)
wrong_1 (suc n) fs h e = one_wrong n fs e

pub wrong_2 : (n a : ℕ) (fs gs : List (List ℕ)) → 2 ≤ n → Next fs a gs → first_number gs ≡ None → take_numbers n fs ≡ None
wrong_2 zero a fs gs h p e = absurd (omega arith)
wrong_2 (suc n) a fs gs h p e = more_wrong n a fs gs p.number p.others (wrong_1 n gs (omega arith) e)

pub wrong_3 : (n a b : ℕ) (fs gs hs : List (List ℕ)) → 3 ≤ n → Next fs a gs → Next gs b hs → first_number hs ≡ None → take_numbers n fs ≡ None
wrong_3 zero a b fs gs hs h p q e = absurd (omega arith)
wrong_3 (suc n) a b fs gs hs h p q e = more_wrong n a fs gs p.number p.others (wrong_2 n b gs hs (omega arith) q e)

-- ---- data: digits hold no comma, so what is left of a text is one field or is no data

digits_above : (s : List ℕ) → only_digits s ≡ true → Above 44 s
digits_above [] t = each_none
digits_above (b ∷ s) t =
    let h = digits_head b s t in
    let p : 44 < b = digit_cases b h.0 (λ p q. omega arith) (λ p q. omega arith) in
    each_more p (digits_above s h.1)

one_field : (s : List ℕ) → Above 44 s → fields s ≡ s ∷ []
unfolding parted
one_field s h = rw append-nil at (fields_there h each_none)

not_digits : (S : ℕ) (s : List ℕ) → only_digits s ≡ false → hex_bytes S s ≡ None
unfolding hex_bytes spells_bytes
not_digits S s e = by (eqb (length s) (2 * S)) (λ p. rw (p, e)) (λ p. rw p)

take_other : (S : ℕ) (s f : List ℕ) (fs : List (List ℕ)) → f ++ parted fs ≡ s → hex_bytes S s ≡ None → take_bytes true S (f ∷ fs) ≡ None
unfolding take_bytes parted
take_other S s f [] e h = let same : f ≡ s = sym (append-nil f) ∙ e in ap (hex_bytes S) same ∙ h
take_other S s f (g ∷ fs) e h = refl

take_one : (S : ℕ) (f : List ℕ) → take_bytes true S (f ∷ []) ≡ hex_bytes S f
unfolding take_bytes
take_one S f = refl

take_fields : (S : ℕ) (s : List ℕ) → take_bytes true S (fields s) ≡ hex_bytes S s
take_fields S s =
    by (only_digits s)
    (λ t. ap (take_bytes true S) (one_field s (digits_above s t)) ∙ take_one S s)
    (λ t.
    let f = first s in
    let n = not_digits S s t in
    ap (take_bytes true S) f.2 ∙ take_other S s f.0 f.1 (fields_back s f.0 f.1 f.2) n ∙ sym n)

bytes_none : (S : ℕ) (s : List ℕ) → spells_bytes S s ≡ false → hex_bytes S s ≡ None
unfolding hex_bytes
bytes_none S s e = rw e

bytes_some : (S : ℕ) (s : List ℕ) → spells_bytes S s ≡ true → hex_bytes S s ≡ Some (unhex s)
unfolding hex_bytes
bytes_some S s e = rw e

-- ---- a body

-- a word that is no kind's
pub unnamed : (S : ℕ) (fs : List (List ℕ)) → first_kind fs ≡ None → fields_of_texts S fs ≡ None
unfolding fields_of_texts first_kind and_then
unnamed S [] e = refl
unnamed S (w ∷ fs) e = rw e

known : (S k : ℕ) (fs gs : List (List ℕ)) → first_kind fs ≡ Some k → rest fs ≡ gs → fields_of_texts S fs ≡ fields_of_kind S k gs
unfolding fields_of_texts first_kind rest and_then
known S k [] gs e r = let z : ◌≡◌ {A = ℕ} 0 1 = cc in absurd (omega arith)
known S k (w ∷ fs) gs e r = rw (e, r)

module _ (S k : ℕ) (fs : List (List ℕ)) where
  kind_wrong : take_numbers (kind_at k).numbers fs ≡ None → fields_of_kind S k fs ≡ None
  unfolding fields_of_kind and_then
  kind_wrong e = rw e

  module _ (a b c : ℕ) (left : List (List ℕ)) (t : Three (kind_at k).numbers fs a b c left) where
    kind_spoilt : take_bytes (kind_at k).payload S left ≡ None → fields_of_kind S k fs ≡ None
    unfolding fields_of_kind and_then
    kind_spoilt e = rw (t.read, e)

    kind_found : (q : Bool) (bs : List ℕ) → (kind_at k).payload ≡ q → take_bytes (kind_at k).payload S left ≡ Some bs
        → Found (fields_of_kind S k fs) q (record { kind = k; a = a; b = b; c = c }) bs
    unfolding fields_of_kind and_then answer_to bytes_read has_data
    kind_found q bs h e =
        record { answer = rw (t.read, e, t.first, t.second, t.third); content = rw (t.read, e); payload = rw (t.read, e) h }

no_data : (S : ℕ) → take_bytes false S [] ≡ Some []
unfolding take_bytes
no_data S = refl

data_missing : (S : ℕ) → take_bytes true S [] ≡ None
unfolding take_bytes
data_missing S = refl

field_too_many : (S : ℕ) (s : List ℕ) → take_bytes false S (fields s) ≡ None
unfolding take_bytes
field_too_many S s = rw (first s).2

-- a kind that was found is one of the table's
pub kind_first : (fs : List (List ℕ)) (k : ℕ) → first_kind fs ≡ Some k → (1 ≤ k) × (k ≤ kind_count)
unfolding first_kind
kind_first [] k e = let z : ◌≡◌ {A = ℕ} 0 1 = cc in absurd (omega arith)
kind_first (w ∷ fs) k e = let q = kind_some w k e in (q.least, q.most)

-- what the code has found: the fields after the word, the kind, and its row of the table
pub record Row (s : List ℕ) (fs : List (List ℕ)) (k n : ℕ) (p : Bool) : Type 0 where
  pub others : rest (fields s) ≡ fs
  pub kind : first_kind (fields s) ≡ Some k
  pub numbers : n ≡ (kind_at k).numbers
  pub payload : p ≡ (kind_at k).payload

pub row_of : (s : List ℕ) (w : Word) (k : ℕ) (r : Shape) → Named s w → Some k ≡ kind_of_packed w.packed → r ≡ shape_of (kind_at k)
    → Row s (fields_from s (w.end + 1)) k r.numbers r.payload
row_of s w k r named e shape =
    record {
      others = named.others;
      kind = named.kind ∙ sym e;
      numbers = row_numbers (kind_at k) r shape;
      payload = row_payload (kind_at k) r shape;
    }

-- three numbers at most
pub row_few : (s : List ℕ) (fs : List (List ℕ)) (k n : ℕ) (p : Bool) → Row s fs k n p → n ≤ 3
row_few s fs k n p row =
    let kind = kind_first (fields s) k row.kind in
    let few = (form_ok k kind.0 kind.1).few in
    let e = row.numbers in omega arith

module _ (S : ℕ) (s : List ℕ) (fs : List (List ℕ)) (k n : ℕ) (p : Bool) (row : Row s fs k n p) where
  of_kind : fields_of_texts S (fields s) ≡ fields_of_kind S k fs
  of_kind = known S k (fields s) fs row.kind row.others

  pub body_wrong : take_numbers n fs ≡ None → fields_of_texts S (fields s) ≡ None
  body_wrong e = of_kind ∙ kind_wrong S k fs (rw row.numbers at e)

  module _ (a b c : ℕ) (left : List (List ℕ)) (t : Three n fs a b c left) where
    three : Three (kind_at k).numbers fs a b c left
    three = rw row.numbers at t

    spoilt : (q : Bool) → p ≡ q → take_bytes q S left ≡ None → fields_of_texts S (fields s) ≡ None
    spoilt q e h = of_kind ∙ kind_spoilt S k fs a b c left three (rw (sym row.payload ∙ e) h)

    found : (q : Bool) (bs : List ℕ) → p ≡ q → take_bytes q S left ≡ Some bs → Found (fields_of_texts S (fields s)) q (record { kind = k; a = a; b = b; c = c }) bs
    found q bs e h =
        let r : (kind_at k).payload ≡ q = sym row.payload ∙ e in
        rw of_kind (kind_found S k fs a b c left three q bs r (rw r h))

    pub body_plain : p ≡ false → left ≡ [] → Found (fields_of_texts S (fields s)) false (record { kind = k; a = a; b = b; c = c }) []
    body_plain e l = found false [] e (rw l (no_data S))

    pub body_missing : p ≡ true → left ≡ [] → fields_of_texts S (fields s) ≡ None
    body_missing e l = spoilt true e (rw l (data_missing S))

    module _ (u : List ℕ) (l : left ≡ fields u) where
      pub body_extra : p ≡ false → fields_of_texts S (fields s) ≡ None
      body_extra e = spoilt false e (rw l (field_too_many S u))

      pub body_loaded : p ≡ true → spells_bytes S u ≡ true → Found (fields_of_texts S (fields s)) true (record { kind = k; a = a; b = b; c = c }) (unhex u)
      body_loaded e h = found true (unhex u) e (rw l (take_fields S u ∙ bytes_some S u h))

      pub body_spoilt : p ≡ true → spells_bytes S u ≡ false → fields_of_texts S (fields s) ≡ None
      body_spoilt e h = spoilt true e (rw l (take_fields S u ∙ bytes_none S u h))

-- ---- what is answered and left

pub refused : (o : Option EventFields) (d : List ℕ) → o ≡ None → (None ≡ answer_to o) × (d ≡ onto 0 (bytes_read o) d)
unfolding answer_to bytes_read
refused o d e = (rw e, rw e (sym (onto_nothing 0 d)))

pub accepted : (o o' : Option EventFields) (p : Bool) (e : Event) (bs d d' : List ℕ) → Found o p e bs → o' ≡ o → d' ≡ onto 0 bs d
    → (Some e ≡ answer_to o') × (d' ≡ onto 0 (bytes_read o') d)
accepted o o' p e bs d d' f s q = (rw s (sym f.answer), rw (s, f.content) q)

-- data that fills the area
pub filled : (t l : List ℕ) → length t ≡ length l → t ≡ onto 0 t l
unfolding onto
filled t l e =
    let d : drop (0 + length t) l ≡ [] = drop_of_length-le l {i = 0 + length t} (omega arith) in
    rw d (sym (append-nil t))

-- ---- a line

module _ (S room : ℕ) where
  pub room_none : (o : Option EventFields) → o ≡ None → with_room S room o ≡ None
  unfolding with_room has_data
  room_none o e = rw e

  pub room_unasked : (o : Option EventFields) → has_data o ≡ false → with_room S room o ≡ o
  unfolding with_room
  room_unasked o e = rw e

  pub room_right : (o : Option EventFields) → has_data o ≡ true → room ≡ S → with_room S room o ≡ o
  unfolding with_room
  room_right o e h = rw (e, eq-eqb room S h)

  pub room_wrong : (o : Option EventFields) → has_data o ≡ true → (room ≡ S → ⊥) → with_room S room o ≡ None
  unfolding with_room
  room_wrong o e h = rw (e, ne_eqb room S h)

  pub parsed_as : (l : List ℕ) (o : Option EventFields) → read_fields S l ≡ o → parsed S room l ≡ with_room S room o
  unfolding parsed
  parsed_as l o e = rw e

  pub parsed_none : (l : List ℕ) → read_fields S l ≡ None → parsed S room l ≡ None
  parsed_none l e = parsed_as l None e ∙ room_none None refl

module _ (l : List ℕ) where
  pub fields_no_line : (S : ℕ) → is_line l ≡ false → read_fields S l ≡ None
  unfolding read_fields
  fields_no_line S e = rw e

  pub fields_line : (S : ℕ) (body : List ℕ) → is_line l ≡ true → body ≡ take (length l - 1) l → read_fields S l ≡ fields_of_texts S (fields body)
  unfolding read_fields without_feed
  fields_line S body e b = rw (e, b)

  pub settings_no_line : is_line l ≡ false → read_settings l ≡ None
  unfolding read_settings
  settings_no_line e = rw e

  pub settings_line : (body : List ℕ) → is_line l ≡ true → body ≡ take (length l - 1) l → read_settings l ≡ settings_of_fields (fields body)
  unfolding read_settings without_feed
  settings_line body e b = rw (e, b)

-- ---- settings

pub answer_none : (o : Option Settings) → o ≡ None → None ≡ settings_answer o
unfolding settings_answer
answer_none o e = rw e

field_left : (s : List ℕ) → eqb (length (fields s)) 0 ≡ false
field_left s = let n = ap length (first s).2 in ne_eqb (length (fields s)) 0 (λ z. omega arith)

module _ (s : List ℕ) where
  from_start : fields_from s 0 ≡ fields s
  from_start = from_within s 0 (omega arith)

  settings_wrong : take_numbers 4 (fields s) ≡ None → settings_of_fields (fields s) ≡ None
  unfolding settings_of_fields and_then
  settings_wrong e = rw e

  pub first_wrong : first_number (fields_from s 0) ≡ None → settings_of_fields (fields s) ≡ None
  first_wrong e = settings_wrong (one_wrong 3 (fields s) (rw from_start at e))

  module _ (a second : ℕ) (f : Next (fields_from s 0) a (fields_from s second)) where
    pub others_wrong : take_numbers 3 (fields_from s second) ≡ None → settings_of_fields (fields s) ≡ None
    others_wrong e = settings_wrong (more_wrong 3 a (fields s) (fields_from s second) (rw from_start at f.number) (rw from_start at f.others) e)

    module _ (b c d next : ℕ) (t : Three 3 (fields_from s second) b c d (fields_from s next)) where
      four : take_numbers 4 (fields s) ≡ Some (taken (a ∷ b ∷ c ∷ d ∷ []) (fields_from s next))
      four = one_more 3 a (fields s) (fields_from s second) _ (rw from_start at f.number) (rw from_start at f.others) t.read

      pub settings_found : length s < next → Some (record { places = a; size = b; entries = c; chunks = d }) ≡ settings_answer (settings_of_fields (fields s))
      unfolding settings_of_fields and_then settings_answer settings_at
      settings_found h = rw (four, from_past s next h)

      pub settings_more : next ≤ length s → settings_of_fields (fields s) ≡ None
      unfolding settings_of_fields and_then
      settings_more h = rw (four, from_within s next h, field_left (drop next s))

-- ---- what a call found, by the case of its answer

pub part_all : (s : List ℕ) (at : ℕ) → take (length s - at) (drop at s) ≡ drop at s
part_all s at = let n = length-drop at s in take_all (length s - at) (drop at s) (omega arith)
