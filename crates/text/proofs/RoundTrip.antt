-- An event and its line of text determine each other.
use mathlib.Core.Path.{◌≡◌, refl, sym, ap, ◌∙◌}
use mathlib.Core.Bool.{Bool, true, false, cond}
use mathlib.Core.List.{List, [], ◌∷◌, ◌++◌, map, append_assoc}
use Rattle.std.specs.Prelude.{Option, Some, None}
use Prim.Native.Nat.{ℕ, zero, suc, ◌+◌, ◌-◌, ◌^◌, ◌≤◌, ◌<◌}
use native.Mathlib.Omega.{arith}
use borrow.Author.Tests.{lt-ltb, ltb-true, le-leb, leb-true, eqb-true, eq-eqb}
use lib.Dec.{ltb}
use lib.ListN.{length, get_or, take, length-append}
use lib.Seq.{take_at, get_or_at, take-suc, take_all}
use Rattle.lists.specs.Tests.{◌and◌, every}
use Rattle.lists.proofs.Tests.{by, and_l, and_r, both}
use Rattle.area.proofs.Each.{Below, each_none, each_more, each_append, each_of}
use Rattle.decimal.specs.Decimal.{decimal, number_of, and_then}
use Rattle.decimal.proofs.Laws.{then_some}
use Rattle.decimal.proofs.RoundTrip.{number_there, number_back, number_fits, decimal_above}
use Rattle.hexadecimal.specs.Hex.{hex}
use Rattle.hexadecimal.proofs.Laws.{bytes_there, bytes_back, hex_all_above}
use Rattle.rules.specs.Event.{kind_count, kind_at, EventFields}
use Rattle.text.specs.Kinds.{kind_of_word}
use Rattle.text.specs.Fields.{parted, fields}
use Rattle.text.specs.Lines.{make_fields, longest, line_feed, field_texts, line_of, Taken, taken, take_numbers, take_bytes, fields_of_kind, fields_of_texts}
use Rattle.text.specs.Lines.{is_line, without_feed, read_fields, only_below, is_event, is_well_formed}
use Rattle.text.proofs.Laws.{form_ok, KindIs, kind_some}
use Rattle.text.proofs.Fields.{Plain, fields_there, first, fields_back}

-- ---- tests
below_of : (n : ℕ) (xs : List ℕ) → only_below n xs ≡ true → Below n xs
unfolding only_below
below_of n xs e = each_of (λ (x : ℕ). x < n) (λ x. ltb x n) (λ x. ltb-true x n) xs e

of_below : {n : ℕ} {xs : List ℕ} → Below n xs → only_below n xs ≡ true
unfolding only_below every
of_below each_none = refl
of_below {n} (each_more {x} {xs} h r) = both _ _ (lt-ltb x n h) (of_below r)

-- what `is_well_formed` tests
pub record WellFormed (S : ℕ) (e : EventFields) : Type 0 where
  pub least : 1 ≤ e.kind
  pub most : e.kind ≤ kind_count
  pub arity : length e.numbers ≡ (kind_at e.kind).numbers
  pub fit : Below (2 ^ 64) e.numbers
  pub size : length e.bytes ≡ cond (kind_at e.kind).payload S 0
  pub small : Below 256 e.bytes
  pub short : length (line_of e) ≤ longest

pub well_formed : (S : ℕ) (e : EventFields) → is_well_formed S e ≡ true → WellFormed S e
unfolding is_well_formed is_event
well_formed S e t =
    let t6 = and_l _ _ t in
    let t5 = and_l _ _ t6 in
    let t4 = and_l _ _ t5 in
    let t3 = and_l _ _ t4 in
    let t2 = and_l _ _ t3 in
    record {
      least = leb-true 1 e.kind (and_l _ _ t2);
      most = leb-true e.kind kind_count (and_r _ _ t2);
      arity = eqb-true (length e.numbers) (kind_at e.kind).numbers (and_r _ _ t3);
      fit = below_of (2 ^ 64) e.numbers (and_r _ _ t4);
      size = eqb-true (length e.bytes) (cond (kind_at e.kind).payload S 0) (and_r _ _ t5);
      small = below_of 256 e.bytes (and_r _ _ t6);
      short = leb-true (length (line_of e)) longest (and_r _ _ t);
    }

pub formed_well : (S : ℕ) (e : EventFields) → WellFormed S e → is_well_formed S e ≡ true
unfolding is_well_formed is_event
formed_well S e w =
    both _ _ (both _ _ (both _ _ (both _ _ (both _ _ (both _ _ (le-leb 1 e.kind w.least) (le-leb e.kind kind_count w.most))
    (eq-eqb (length e.numbers) (kind_at e.kind).numbers w.arity)) (of_below w.fit))
    (eq-eqb (length e.bytes) (cond (kind_at e.kind).payload S 0) w.size)) (of_below w.small))
    (le-leb (length (line_of e)) longest w.short)

-- ---- numbers and data

plain_numbers : {ns : List ℕ} → Below (2 ^ 64) ns → Plain (map decimal ns)
plain_numbers each_none = each_none
plain_numbers (each_more {x} {xs} h r) = each_more (decimal_above x h) (plain_numbers r)

plain_payload : (p : Bool) (bs : List ℕ) → Plain (cond p (hex bs ∷ []) [])
plain_payload true bs = each_more (hex_all_above bs) each_none
plain_payload false bs = each_none

take_there : {ns : List ℕ} (left : List (List ℕ)) → Below (2 ^ 64) ns → take_numbers (length ns) (map decimal ns ++ left) ≡ Some (taken ns left)
unfolding take_numbers and_then
take_there left each_none = refl
take_there left (each_more {x} {xs} h r) = rw (number_there x h, take_there left r)

record TakenFrom (n : ℕ) (fs : List (List ℕ)) (t : Taken) : Type 0 where
  count : length t.numbers ≡ n
  fit : Below (2 ^ 64) t.numbers
  texts : map decimal t.numbers ++ t.left ≡ fs

take_back : (n : ℕ) (fs : List (List ℕ)) (t : Taken) → take_numbers n fs ≡ Some t → TakenFrom n fs t
unfolding take_numbers
take_back zero fs t e =
    let same : t ≡ taken [] fs = cc in
    rw same (record { count = refl; fit = each_none; texts = refl })
take_back (suc n) [] t e = let z : ◌≡◌ {A = ℕ} 0 1 = cc in absurd (omega arith)
take_back (suc n) (f ∷ fs) t e =
    let s = then_some (number_of f) _ t e in
    let r = then_some (take_numbers n fs) _ t s.2 in
    let g : Some (taken (s.0 ∷ r.0.numbers) r.0.left) ≡ Some t = r.2 in
    let same : t ≡ taken (s.0 ∷ r.0.numbers) r.0.left = cc in
    let i = take_back n fs r.0 r.1 in
    rw same
    (record {
      count = ap suc i.count;
      fit = each_more (number_fits f s.0 s.1) i.fit;
      texts = rw (number_back f s.0 s.1, i.texts);
    })

payload_there : (p : Bool) (S : ℕ) (bs : List ℕ) → length bs ≡ cond p S 0 → Below 256 bs → take_bytes p S (cond p (hex bs ∷ []) []) ≡ Some bs
unfolding take_bytes
payload_there true S bs e h = bytes_there S h e
payload_there false S [] e h = refl
payload_there false S (b ∷ bs) e h = absurd (omega arith)

record PayloadFrom (p : Bool) (S : ℕ) (fs : List (List ℕ)) (bs : List ℕ) : Type 0 where
  size : length bs ≡ cond p S 0
  small : Below 256 bs
  texts : cond p (hex bs ∷ []) [] ≡ fs

payload_back : (p : Bool) (S : ℕ) (fs : List (List ℕ)) (bs : List ℕ) → take_bytes p S fs ≡ Some bs → PayloadFrom p S fs bs
unfolding take_bytes
payload_back false S [] bs e =
    let same : bs ≡ [] = cc in
    rw same (record { size = refl; small = each_none; texts = refl })
payload_back false S (f ∷ fs) bs e = let z : ◌≡◌ {A = ℕ} 0 1 = cc in absurd (omega arith)
payload_back true S [] bs e = let z : ◌≡◌ {A = ℕ} 0 1 = cc in absurd (omega arith)
payload_back true S (f ∷ []) bs e =
    let r = bytes_back S f bs e in
    record { size = r.count; small = r.small; texts = ap (λ (l : List ℕ). l ∷ []) r.text }
payload_back true S (f ∷ g ∷ fs) bs e = let z : ◌≡◌ {A = ℕ} 0 1 = cc in absurd (omega arith)

-- ---- the line

-- a line without its line feed
body_of : EventFields → List ℕ
body_of e = (kind_at e.kind).word ++ parted (field_texts e)

line_body : (e : EventFields) → line_of e ≡ body_of e ++ (line_feed ∷ [])
unfolding line_of body_of
line_body e = sym (append_assoc (kind_at e.kind).word (parted (field_texts e)) (line_feed ∷ []))

fields_of_body : (S : ℕ) (e : EventFields) → WellFormed S e → fields (body_of e) ≡ (kind_at e.kind).word ∷ field_texts e
unfolding body_of field_texts
fields_of_body S e w =
    fields_there (form_ok e.kind w.least w.most).plain
    (each_append (plain_numbers w.fit) (plain_payload (kind_at e.kind).payload e.bytes))

of_fields : (S : ℕ) (e : EventFields) → WellFormed S e → fields_of_texts S ((kind_at e.kind).word ∷ field_texts e) ≡ Some e
unfolding fields_of_texts fields_of_kind and_then field_texts
of_fields S e w =
    rw (
      (form_ok e.kind w.least w.most).kind,
      ← w.arity,
      take_there (cond (kind_at e.kind).payload (hex e.bytes ∷ []) []) w.fit,
      payload_there (kind_at e.kind).payload S e.bytes w.size w.small,
    )

-- a body with its line feed is read as its fields are
body_event_fields : (S : ℕ) (body : List ℕ) → length body < longest → read_fields S (body ++ (line_feed ∷ [])) ≡ fields_of_texts S (fields body)
unfolding read_fields is_line without_feed ◌and◌
body_event_fields S body h =
    let n : length (body ++ (line_feed ∷ [])) ≡ length body + 1 = length-append body (line_feed ∷ []) in
    let m : length (body ++ (line_feed ∷ [])) - 1 ≡ length body = omega arith in
    rw (
      le-leb (length (body ++ (line_feed ∷ []))) longest (omega arith),
      m,
      get_or_at body line_feed [] 0 (length body) refl,
      take_at body (line_feed ∷ []) (length body) refl,
    )

-- THEOREM. The line of a well-formed event is read as that event.
pub fields_of_line : (S : ℕ) (e : EventFields) → is_well_formed S e ≡ true → read_fields S (line_of e) ≡ Some e
fields_of_line S e t =
    let w = well_formed S e t in
    let n : length (line_of e) ≡ length (body_of e) + 1 = ap length (line_body e) ∙ length-append (body_of e) (line_feed ∷ []) in
    rw (line_body e, body_event_fields S (body_of e) (omega (arith, w.short)), fields_of_body S e w) (of_fields S e w)

record Line (S : ℕ) (l : List ℕ) (e : EventFields) : Type 0 where
  whole : without_feed l ++ (line_feed ∷ []) ≡ l
  short : length l ≤ longest
  inside : fields_of_texts S (fields (without_feed l)) ≡ Some e

ended : (l : List ℕ) → get_or l (length l - 1) 0 ≡ line_feed → without_feed l ++ (line_feed ∷ []) ≡ l
unfolding without_feed
ended [] q = absurd (omega arith)
ended (b ∷ l) q =
    let n : suc (length (b ∷ l) - 1) ≡ length (b ∷ l) = omega arith in
    rw (← q) (sym (take-suc (b ∷ l) (length (b ∷ l) - 1) 0 (omega arith)) ∙ ap (λ (k : ℕ). take k (b ∷ l)) n ∙ take_all (length (b ∷ l)) (b ∷ l) (omega arith))

line_fields : (S : ℕ) (l : List ℕ) (e : EventFields) → read_fields S l ≡ Some e → Line S l e
unfolding read_fields is_line
line_fields S l e t =
    by (is_line l)
    (λ p. record {
      whole = ended l (eqb-true (get_or l (length l - 1) 0) line_feed (and_r _ _ p));
      short = leb-true (length l) longest (and_l _ _ p);
      inside = rw p at t;
    })
    (λ p. let y : ◌≡◌ {A = Option EventFields} None (Some e) = rw p at t in let z : ◌≡◌ {A = ℕ} 0 1 = cc in absurd (omega arith))

record Inside (S : ℕ) (w : List ℕ) (fs : List (List ℕ)) (e : EventFields) : Type 0 where
  kind : KindIs w e.kind
  numbers : TakenFrom (kind_at e.kind).numbers fs (taken e.numbers (cond (kind_at e.kind).payload (hex e.bytes ∷ []) []))
  size : length e.bytes ≡ cond (kind_at e.kind).payload S 0
  small : Below 256 e.bytes

of_fields_back : (S : ℕ) (w : List ℕ) (fs : List (List ℕ)) (e : EventFields) → fields_of_texts S (w ∷ fs) ≡ Some e → Inside S w fs e
unfolding fields_of_texts fields_of_kind
of_fields_back S w fs e t =
    let a = then_some (kind_of_word w) _ e t in
    let b = then_some (take_numbers (kind_at a.0).numbers fs) _ e a.2 in
    let c = then_some (take_bytes (kind_at a.0).payload S b.0.left) _ e b.2 in
    let g : Some (make_fields a.0 b.0.numbers c.0) ≡ Some e = c.2 in
    let same : e ≡ make_fields a.0 b.0.numbers c.0 = cc in
    let p = payload_back (kind_at a.0).payload S b.0.left c.0 c.1 in
    let q = take_back (kind_at a.0).numbers fs b.0 b.1 in
    rw same (record { kind = kind_some w a.0 a.1; numbers = rw p.texts q; size = p.size; small = p.small })

body_back : (S : ℕ) (body w : List ℕ) (fs : List (List ℕ)) (e : EventFields) → fields body ≡ w ∷ fs → Inside S w fs e → body_of e ≡ body
unfolding body_of field_texts
body_back S body w fs e f i = rw (i.kind.word, i.numbers.texts) (fields_back body w fs f)

read_back : (S : ℕ) (l : List ℕ) (e : EventFields) → Line S l e → (line_of e ≡ l) × WellFormed S e
read_back S l e p =
    let body : List ℕ = without_feed l in
    let f = first body in
    let i = of_fields_back S f.0 f.1 e (rw f.2 at p.inside) in
    let line : line_of e ≡ l = line_body e ∙ ap (λ (b : List ℕ). b ++ (line_feed ∷ [])) (body_back S body f.0 f.1 e f.2 i) ∙ p.whole in (
      line,
      record {
        least = i.kind.least;
        most = i.kind.most;
        arity = i.numbers.count;
        fit = i.numbers.fit;
        size = i.size;
        small = i.small;
        short = rw line p.short;
      },
    )

-- THEOREM. A line that is read as an event is that event's line ..
pub line_of_fields : (S : ℕ) (l : List ℕ) (e : EventFields) → read_fields S l ≡ Some e → line_of e ≡ l
line_of_fields S l e t = (read_back S l e (line_fields S l e t)).0

-- .. and the event is well formed.
pub fields_well_formed : (S : ℕ) (l : List ℕ) (e : EventFields) → read_fields S l ≡ Some e → is_well_formed S e ≡ true
fields_well_formed S l e t = formed_well S e (read_back S l e (line_fields S l e t)).1
