-- The rules' events and their lines of text determine each other.
use mathlib.Core.Path.{◌≡◌, refl, sym, ap, ◌∙◌}
use mathlib.Core.Bool.{Bool, true, false, cond}
use mathlib.Core.List.{List, [], ◌∷◌}
use Rattle.std.specs.Prelude.{Some}
use Prim.Native.Nat.{ℕ, zero, suc, ◌+◌, ◌≤◌, ◌<◌}
use native.Mathlib.Nat.{add-zero, add-suc, suc-add}
use native.Mathlib.Numerals.{one-add}
use native.Mathlib.Omega.{arith}
use lib.ListN.{length, get_or}
use Rattle.lists.specs.Tests.{◌and◌}
use Rattle.lists.proofs.Tests.{impossible}
use Rattle.decimal.specs.Decimal.{and_then}
use Rattle.decimal.proofs.Laws.{then_some}
use Rattle.rules.specs.Event.{Event, put, copy, savelog, map, send, deliver, drop, savemap, done, get, abandon, learn, reset, crash, lose, rise, join, view}
use Rattle.rules.specs.Event.{fetch, ready, mend, collect, unknown, kind_count, Kind, kinds, no_kind, kind_at, EventFields, event_of, event_fields}
use Rattle.text.specs.Lines.{make_fields, line_of, read_fields, is_event, is_well_formed, event_line, read_event, has_line}
use Rattle.rules.proofs.Event.{kinds_count}
use Rattle.text.proofs.RoundTrip.{WellFormed, well_formed, fields_of_line, line_of_fields, fields_well_formed}

-- ---- an event is made again of its fields
pub event_of_event_fields : (e : Event) → event_of (event_fields e) ≡ e
unfolding event_of event_fields kind_at kinds
event_of_event_fields (put p i b d) = refl
event_of_event_fields (copy k) = refl
event_of_event_fields (savelog i) = refl
event_of_event_fields (map p b) = refl
event_of_event_fields (send b) = refl
event_of_event_fields (deliver n) = refl
event_of_event_fields (drop n) = refl
event_of_event_fields (savemap i) = refl
event_of_event_fields (done p b) = refl
event_of_event_fields (get p b) = refl
event_of_event_fields (abandon p b) = refl
event_of_event_fields (learn p) = refl
event_of_event_fields (reset p) = refl
event_of_event_fields (crash i) = refl
event_of_event_fields (lose i) = refl
event_of_event_fields (rise i) = refl
event_of_event_fields (join i) = refl
event_of_event_fields view = refl
event_of_event_fields (fetch g) = refl
event_of_event_fields (ready g) = refl
event_of_event_fields (mend i) = refl
event_of_event_fields (collect i) = refl
event_of_event_fields unknown = refl

-- ---- and fields of their event, where there are as many numbers as the kind has and no bytes where it has no data

abbrev Back : ℕ → Kind → Type 0
Back k f =
    (ns bs : List ℕ) → length ns ≡ f.numbers → (f.payload ≡ false → bs ≡ [])
    → event_fields (f.make (get_or ns 0 0) (get_or ns 1 0) (get_or ns 2 0) bs) ≡ make_fields k ns bs

-- every row of a table, whose first is of kind k
data Rows : ℕ → List Kind → Type 0 where
  end : {k : ℕ} → Rows k []
  row : {k : ℕ} {f : Kind} {fs : List Kind} → Back k f → Rows (suc k) fs → Rows k (f ∷ fs)

row_at : {k : ℕ} {fs : List Kind} → Rows k fs → (i : ℕ) → i < length fs → Back (k + i) (get_or fs i no_kind)
row_at end i h = absurd (omega arith)
row_at {k} (row {f} {fs} b r) zero h = rw (add-zero k) b
row_at {k} (row {f} {fs} b r) (suc i) h = rw (add-suc k i, ← suc-add k i) (row_at r i (omega arith))

none_back : (k : ℕ) (e : Event) → event_fields e ≡ make_fields k [] [] → (ns bs : List ℕ) → length ns ≡ 0 → (false ≡ false → bs ≡ []) → event_fields e ≡ make_fields k ns bs
none_back k e h [] bs n z = rw (z refl) h
none_back k e h (a ∷ ns) bs n z = absurd (omega arith)

one_back : (k : ℕ) (f : ℕ → Event) → ((a : ℕ) → event_fields (f a) ≡ make_fields k (a ∷ []) [])
    → (ns bs : List ℕ) → length ns ≡ 1 → (false ≡ false → bs ≡ []) → event_fields (f (get_or ns 0 0)) ≡ make_fields k ns bs
one_back k f h [] bs n z = absurd (omega arith)
one_back k f h (a ∷ []) bs n z = rw (z refl) (h a)
one_back k f h (a ∷ b ∷ ns) bs n z = absurd (omega arith)

two_back : (k : ℕ) (f : ℕ → ℕ → Event) → ((a b : ℕ) → event_fields (f a b) ≡ make_fields k (a ∷ b ∷ []) [])
    → (ns bs : List ℕ) → length ns ≡ 2 → (false ≡ false → bs ≡ []) → event_fields (f (get_or ns 0 0) (get_or ns 1 0)) ≡ make_fields k ns bs
two_back k f h [] bs n z = absurd (omega arith)
two_back k f h (a ∷ []) bs n z = absurd (omega arith)
two_back k f h (a ∷ b ∷ []) bs n z = rw (z refl) (h a b)
two_back k f h (a ∷ b ∷ c ∷ ns) bs n z = absurd (omega arith)

three_back : (ns bs : List ℕ) → length ns ≡ 3 → (true ≡ false → bs ≡ []) → event_fields (put (get_or ns 0 0) (get_or ns 1 0) (get_or ns 2 0) bs) ≡ make_fields 1 ns bs
unfolding event_fields
three_back [] bs n z = absurd (omega arith)
three_back (a ∷ []) bs n z = absurd (omega arith)
three_back (a ∷ b ∷ []) bs n z = absurd (omega arith)
three_back (a ∷ b ∷ c ∷ []) bs n z = refl
three_back (a ∷ b ∷ c ∷ d ∷ ns) bs n z = absurd (omega arith)

rows : Rows 1 kinds
unfolding event_fields kinds
rows =
    row three_back
    (row (one_back 2 copy (λ a. refl))
    (row (one_back 3 savelog (λ a. refl))
    (row (two_back 4 map (λ a b. refl))
    (row (one_back 5 send (λ a. refl))
    (row (one_back 6 deliver (λ a. refl))
    (row (one_back 7 drop (λ a. refl))
    (row (one_back 8 savemap (λ a. refl))
    (row (two_back 9 done (λ a b. refl))
    (row (two_back 10 get (λ a b. refl))
    (row (two_back 11 abandon (λ a b. refl))
    (row (one_back 12 learn (λ a. refl))
    (row (one_back 13 reset (λ a. refl))
    (row (one_back 14 crash (λ a. refl))
    (row (one_back 15 lose (λ a. refl))
    (row (one_back 16 rise (λ a. refl))
    (row (one_back 17 join (λ a. refl))
    (row (none_back 18 view refl)
    (row (one_back 19 fetch (λ a. refl))
    (row (one_back 20 ready (λ a. refl))
    (row (one_back 21 mend (λ a. refl))
    (row (one_back 22 collect (λ a. refl)) end)))))))))))))))))))))

back_at : (k : ℕ) → 1 ≤ k → k ≤ kind_count → Back k (kind_at k)
unfolding kind_at
back_at zero h g = absurd (omega arith)
back_at (suc i) h g = rw (← one-add i) (row_at rows i (omega (arith, kinds_count)))

pub event_fields_of_event : (p : EventFields) → 1 ≤ p.kind → p.kind ≤ kind_count → length p.numbers ≡ (kind_at p.kind).numbers
    → ((kind_at p.kind).payload ≡ false → p.bytes ≡ []) → event_fields (event_of p) ≡ p
unfolding event_of
event_fields_of_event p h g n z = back_at p.kind h g p.numbers p.bytes n z

no_bytes : (b : Bool) (S : ℕ) (bs : List ℕ) → length bs ≡ cond b S 0 → b ≡ false → bs ≡ []
no_bytes true S bs n e = impossible (sym e)
no_bytes false S [] n e = refl
no_bytes false S (b ∷ bs) n e = absurd (omega arith)

formed_fields : (S : ℕ) (p : EventFields) → WellFormed S p → event_fields (event_of p) ≡ p
formed_fields S p w =
    event_fields_of_event p w.least w.most w.arity (no_bytes (kind_at p.kind).payload S p.bytes w.size)

-- ---- events and lines

-- THEOREM. The line of an event whose fields are below 2^64 and whose data has S bytes is read as that event.
pub read_event_line : (S : ℕ) (e : Event) → has_line S e ≡ true → read_event S (event_line e) ≡ Some e
unfolding has_line read_event event_line and_then
read_event_line S e h = rw (fields_of_line S (event_fields e) h) (ap Some (event_of_event_fields e))

record Was (S : ℕ) (l : List ℕ) (e : Event) : Type 0 where
  line : event_line e ≡ l
  fits : has_line S e ≡ true

was : (S : ℕ) (l : List ℕ) (e : Event) → read_event S l ≡ Some e → Was S l e
unfolding read_event event_line has_line
was S l e t =
    let r = then_some (read_fields S l) _ e t in
    let p : EventFields = r.0 in
    let made : Some (event_of p) ≡ Some e = r.2 in
    let same : e ≡ event_of p = cc in
    let formed = fields_well_formed S l p r.1 in
    let back : event_fields e ≡ p = ap event_fields same ∙ formed_fields S p (well_formed S p formed) in
    record { line = ap line_of back ∙ line_of_fields S l p r.1; fits = ap (is_well_formed S) back ∙ formed }

-- THEOREM. A line that is read as an event is that event's line ..
pub event_line_read : (S : ℕ) (l : List ℕ) (e : Event) → read_event S l ≡ Some e → event_line e ≡ l
event_line_read S l e t = (was S l e t).line

-- .. and the event is one that has a line. So each event has one line at most, and each line that is read is one event's.
pub read_has_line : (S : ℕ) (l : List ℕ) (e : Event) → read_event S l ≡ Some e → has_line S e ≡ true
read_has_line S l e t = (was S l e t).fits

-- what stands for a refused line has none
pub unknown_no_line : (S : ℕ) → has_line S unknown ≡ false
unfolding has_line is_well_formed is_event event_fields ◌and◌
unknown_no_line S = refl
