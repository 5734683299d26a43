-- What get promises a caller that takes a part: the number, the key and the bytes of the outcome of a call.
use Rattle.std.specs.Prelude.{◌≡◌, List, [], cond, ℕ, eqb}
use Rattle.rules.specs.Call.{Call, get_kind}
use Rattle.calls.specs.Outcome.{call_with, outcome}

-- no area is lent, so the call is one with an area as long as the zero block
abbrev pub part_call : List ℕ → ℕ → ℕ → Call
part_call blank proxy block = call_with get_kind proxy block 0 [] blank blank

pub record GetsPart (store blank : List ℕ) (proxy block code key : ℕ) (bytes : List ℕ) : Type 0 where
  pub number : code ≡ (outcome store (part_call blank proxy block)).code
  pub found : key ≡ (outcome store (part_call blank proxy block)).key
  -- what would fill the area; none on a refusal
  pub same : bytes ≡ cond (eqb code 0) (outcome store (part_call blank proxy block)).area []
