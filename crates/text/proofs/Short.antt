-- No line of an event is too long where blocks are within their limit: so every event whose fields are below 2^64 and whose data has S bytes has a line.
use mathlib.Core.Path.{◌≡◌, ap}
use mathlib.Core.Bool.{Bool, true, false, cond}
use mathlib.Core.List.{List, [], ◌∷◌, ◌++◌, map}
use Rattle.std.specs.Prelude.{Some}
use Prim.Native.Nat.{ℕ, ◌+◌, ◌*◌, ◌≤◌}
use native.Mathlib.Omega.{arith}
use lib.ListN.{length, length-append}
use borrow.Author.Tests.{eqb-true, leb-true, le-leb}
use Rattle.lists.proofs.Tests.{and_l, and_r, both}
use Rattle.rules.specs.Limits.{max_size}
use Rattle.rules.specs.Event.{Event, kind_count, kind_at, EventFields, event_fields}
use Rattle.decimal.specs.Decimal.{decimal}
use Rattle.decimal.proofs.Laws.{decimal_most}
use Rattle.hexadecimal.specs.Hex.{hex}
use Rattle.hexadecimal.proofs.Laws.{hex_length}
use Rattle.text.specs.Fields.{parted}
use Rattle.text.specs.Lines.{longest, line_feed, field_texts, line_of, is_event, is_well_formed, event_line, read_event, has_line}
use Rattle.text.proofs.Fields.{parted_append}
use Rattle.text.proofs.Laws.{form_ok}
use Rattle.text.proofs.Events.{read_event_line}

numbers_short : (ns : List ℕ) → length (parted (map decimal ns)) ≤ 21 * length ns
unfolding parted
numbers_short [] = omega arith
numbers_short (n ∷ ns) = omega (arith, length-append (decimal n) (parted (map decimal ns)), decimal_most n, numbers_short ns)

data_short : (b : Bool) (S : ℕ) (bytes : List ℕ) → length bytes ≡ cond b S 0 → length (parted (cond b (hex bytes ∷ []) [])) ≤ 1 + 2 * S
unfolding parted
data_short true S bytes e = omega (arith, length-append (hex bytes) [], hex_length bytes)
data_short false S bytes e = omega arith

line_short : (S : ℕ) (p : EventFields) → S ≤ max_size → 1 ≤ p.kind → p.kind ≤ kind_count → length p.numbers ≡ (kind_at p.kind).numbers
    → length p.bytes ≡ cond (kind_at p.kind).payload S 0 → length (line_of p) ≤ longest
unfolding line_of field_texts
line_short S p small least most arity size =
    let k = form_ok p.kind least most in
    let word = (kind_at p.kind).word in
    let numbers = map decimal p.numbers in
    let payload = cond (kind_at p.kind).payload (hex p.bytes ∷ []) [] in
    let fields = parted (numbers ++ payload) in
    omega (
      arith,
      length-append word (fields ++ (line_feed ∷ [])),
      length-append fields (line_feed ∷ []),
      ap length (parted_append numbers payload),
      length-append (parted numbers) (parted payload),
      numbers_short p.numbers,
      data_short (kind_at p.kind).payload S p.bytes size,
      k.short,
      k.few,
      arity,
      small,
    )

-- THEOREM. Every event whose fields are below 2^64 and whose data has S bytes has a line, and its line is read as that event.
pub event_has_line : (S : ℕ) (e : Event) → S ≤ max_size → is_event S (event_fields e) ≡ true → has_line S e ≡ true
unfolding has_line is_well_formed is_event
event_has_line S e small y =
    let p = event_fields e in
    let size = and_l _ _ y in
    let numbers = and_l _ _ size in
    let arity = and_l _ _ numbers in
    let kind = and_l _ _ arity in
    both _ _ y
    (le-leb _ _ (line_short S p small (leb-true 1 p.kind (and_l _ _ kind)) (leb-true p.kind kind_count (and_r _ _ kind)) (eqb-true _ _ (and_r _ _ arity))
    (eqb-true _ _ (and_r _ _ size))))

pub every_event_read : (S : ℕ) (e : Event) → S ≤ max_size → is_event S (event_fields e) ≡ true → read_event S (event_line e) ≡ Some e
every_event_read S e small y = read_event_line S e (event_has_line S e small y)
