-- What a binary search among n ascending numbers answers.
use Rattle.std.specs.Prelude.{ℕ, ◌≤◌, ◌<◌}

-- r is the first place whose number is not below x
pub record FirstNotBelow (at : ℕ → ℕ) (n x r : ℕ) : Type 0 where
  pub within : r ≤ n
  pub before : (j : ℕ) → j < r → at j < x
  pub after : (j : ℕ) → r ≤ j → j < n → x ≤ at j
