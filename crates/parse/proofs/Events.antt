-- The event of a line, from what parse answers: its kind, its numbers and the data that it wrote.
use mathlib.Core.Path.{◌≡◌, refl, sym, ap, ◌∙◌}
use mathlib.Core.List.{List, [], ◌∷◌}
use mathlib.Core.Bool.{true}
use Rattle.std.specs.Prelude.{Option, Some, None}
use Prim.Native.Nat.{ℕ, ◌≤◌}
use native.Mathlib.Omega.{arith}
use lib.ListN.{length, get_or, take}
use Rattle.lists.proofs.Tests.{by}
use Rattle.area.specs.Area.{onto}
use Rattle.decimal.specs.Decimal.{and_then}
use Rattle.rules.specs.Event.{EventFields, kind_at, event_of, fields_brought, event_from}
use Rattle.text.specs.Lines.{read_fields, read_event}
use Rattle.text.proofs.Laws.{form_ok}
use Rattle.text.proofs.RoundTrip.{WellFormed, well_formed, fields_well_formed}
use Rattle.parse.specs.Answers.{has_data, with_room, parsed, answer_to, bytes_read}
use Rattle.text.specs.declared.Event.{Event}
use Rattle.parse.proofs.Laws.{room_right, room_unasked, filled}

-- ---- at most three numbers, each by its index, are the list of them
by_index : (ns : List ℕ) (n : ℕ) → length ns ≡ n → n ≤ 3 → take n (get_or ns 0 0 ∷ get_or ns 1 0 ∷ get_or ns 2 0 ∷ []) ≡ ns
by_index [] n e h = rw (sym e) refl
by_index (a ∷ []) n e h = rw (sym e) refl
by_index (a ∷ b ∷ []) n e h = rw (sym e) refl
by_index (a ∷ b ∷ c ∷ []) n e h = rw (sym e) refl
by_index (a ∷ b ∷ c ∷ d ∷ ns) n e h = absurd (omega arith)

no_length : (bytes : List ℕ) → length bytes ≡ 0 → [] ≡ bytes
no_length [] e = refl
no_length (b ∷ bytes) e = absurd (omega arith)

abbrev again : EventFields → List ℕ → EventFields
again p bytes = fields_brought p.kind (get_or p.numbers 0 0) (get_or p.numbers 1 0) (get_or p.numbers 2 0) bytes

pub fields_again : (S : ℕ) (p : EventFields) → WellFormed S p → (bytes : List ℕ) → ((kind_at p.kind).payload ≡ true → bytes ≡ p.bytes) → again p bytes ≡ p
unfolding fields_brought
fields_again S p w bytes same =
    let numbers = by_index p.numbers (kind_at p.kind).numbers w.arity (form_ok p.kind w.least w.most).few in
    by (kind_at p.kind).payload (λ y. rw (y, numbers, same y) refl) (λ n. rw (n, numbers, sym (no_length p.bytes (rw n at w.size))) refl)

-- ---- where a block is lent, no event is refused for want of room
roomy : (S : ℕ) (o : Option EventFields) → with_room S S o ≡ o
roomy S o = by (has_data o) (λ y. room_right S S o y refl) (λ n. room_unasked S S o n)

module _ (S : ℕ) (line block after : List ℕ) (r : Option Event) (room : length block ≡ S) (answers : r ≡ answer_to (parsed S (length block) line))
    (left : after ≡ onto 0 (bytes_read (parsed S (length block) line)) block) where
  is_read : parsed S (length block) line ≡ read_fields S line
  unfolding parsed
  is_read = rw room (roomy S (read_fields S line))

  of_event_fields : (e : Event) → r ≡ Some e → (o : Option EventFields) → read_fields S line ≡ o → and_then o (λ p. Some (event_of p)) ≡ Some (event_from e.kind e.a e.b e.c after)
  unfolding answer_to bytes_read and_then
  of_event_fields e s None q = let t : r ≡ None = answers ∙ ap answer_to (is_read ∙ q) in let z : ◌≡◌ {A = ℕ} 0 1 = cc in absurd (omega arith)
  of_event_fields e s (Some p) q =
      let t : r ≡ Some (record { kind = p.kind; a = get_or p.numbers 0 0; b = get_or p.numbers 1 0; c = get_or p.numbers 2 0 }) = answers ∙ ap answer_to (is_read ∙ q) in
      let l : after ≡ onto 0 p.bytes block = left ∙ ap (λ (x : Option EventFields). onto 0 (bytes_read x) block) (is_read ∙ q) in
      let w = well_formed S p (fields_well_formed S line p q) in
      let numbers : fields_brought e.kind e.a e.b e.c after ≡ again p after = cc in
      let whole = fields_again S p w after (λ y. let n : length p.bytes ≡ S = rw y at w.size in l ∙ sym (filled p.bytes block (n ∙ sym room))) in
      ap (λ (x : EventFields). Some (event_of x)) (sym (numbers ∙ whole))

  pub parsed_event : (e : Event) → r ≡ Some e → read_event S line ≡ Some (event_from e.kind e.a e.b e.c after)
  unfolding read_event
  parsed_event e s = of_event_fields e s (read_fields S line) refl

  no_fields : r ≡ None → (o : Option EventFields) → read_fields S line ≡ o → and_then o (λ p. Some (event_of p)) ≡ None
  unfolding answer_to and_then
  no_fields e None q = refl
  no_fields e (Some p) q =
      let t : r ≡ Some (record { kind = p.kind; a = get_or p.numbers 0 0; b = get_or p.numbers 1 0; c = get_or p.numbers 2 0 }) = answers ∙ ap answer_to (is_read ∙ q) in
      let z : ◌≡◌ {A = ℕ} 0 1 = cc in absurd (omega arith)

  pub parsed_none : r ≡ None → read_event S line ≡ None
  unfolding read_event
  parsed_none e = no_fields e (read_fields S line) refl
