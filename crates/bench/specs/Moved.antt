-- What a move of n words from `from` to `to` answers and leaves.
use Rattle.std.specs.Prelude.{◌≡◌, List, ℕ, ◌+◌, ◌*◌, ◌≤◌, ◌<◌, max, length, drop}
use Rattle.std.proofs.Math.Seq.{paste}
use Rattle.words.specs.Words.{words}

-- 0, and the words are moved, where both runs are within the bytes; else 1, and nothing changes
pub data Moved (from to n : ℕ) (before : List ℕ) (answer : ℕ) (after : List ℕ) : Type 0 where
  done : 8 * (max from to + n) ≤ length before → answer ≡ 0 → words after ≡ paste (words before) to (drop from (words before)) n
      → Moved from to n before answer after
  refused : length before < 8 * (max from to + n) → answer ≡ 1 → after ≡ before → Moved from to n before answer after
