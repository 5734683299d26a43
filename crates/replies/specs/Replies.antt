-- The answer to a line, and what the line's event leaves.
use Rattle.std.specs.Prelude.{◌≡◌, List, ℕ, ◌+◌, ◌*◌, length}
use Rattle.area.specs.Area.{onto}
use Rattle.rules.specs.Limits.{max_size}
use Rattle.rules.specs.Step.{Outcome}
use Rattle.layout.specs.Store.{render_bytes}
use Rattle.traces.specs.Trace.{answer_text}

-- no answer is longer
abbrev pub longest_answer : ℕ
longest_answer = 65 + 2 * max_size

-- the answer stands at the front of the area, r is its length, and the store is what the outcome leaves
pub record Replies (number : ℕ) (o : Outcome) (area : List ℕ) (r : ℕ) (area_after store store_after : List ℕ) : Type 0 where
  pub size : r ≡ length (answer_text number o)
  pub said : area_after ≡ onto 0 (answer_text number o) area
  pub leaves : store_after ≡ render_bytes o.after store
