-- Flags: for each row of a part a byte, which has a bit for each place. They say of the chunks that a place lacks and that lie in the part which ones
-- were met.
use Rattle.std.specs.Prelude.{◌≡◌, List, [], ◌∷◌, Bool, true, not, cond, ℕ, ◌+◌, ◌-◌, ◌/◌, ◌%◌, ◌≤◌, ◌<◌, eqb, length, get_or, set}
use Rattle.lists.specs.Tests.{◌and◌, ◌or◌}
use Rattle.rules.specs.declared.settings.Settings.{Settings}
use Rattle.rules.specs.State.{State}
use Rattle.rules.specs.Derived.{holder}
use Rattle.holders.specs.Members.{LiesAt}
use Rattle.mend.specs.Keys.{lacks, part_rows, in_part, beyond_part}

abbrev pub bits : List ℕ
bits = 1 ∷ 2 ∷ 4 ∷ 8 ∷ 16 ∷ 32 ∷ 64 ∷ 128 ∷ []

-- is a place's bit on, and the byte with it on
unfoldable pub is_on : ℕ → ℕ → Bool
is_on byte place = eqb (byte / get_or bits place 0 % 2) 1

unfoldable pub with_on : ℕ → ℕ → ℕ
with_on byte place = cond (is_on byte place) byte (byte + get_or bits place 0)

abbrev pub flag : List ℕ → ℕ → ℕ → Bool
flag flags row place = is_on (get_or flags row 0) place

abbrev pub raised : List ℕ → ℕ → ℕ → List ℕ
raised flags row place = set flags row (with_on (get_or flags row 0) place)

-- the chunk in a row of a place is met: what it counts in the part from row `base` on and beyond it, and the flags after it
pub record MeetsAt (base row place : ℕ) (flags after : List ℕ) (inside beyond : ℕ) : Type 0 where
  pub earlier : row < base → (inside ≡ 0) × (beyond ≡ 0) × (after ≡ flags)
  pub within : base ≤ row → row < base + part_rows
      → (inside ≡ cond (not (flag flags (row - base) place)) 1 0) × (beyond ≡ 0) × (after ≡ raised flags (row - base) place)
  pub later : base + part_rows ≤ row → (inside ≡ 0) × (beyond ≡ 1) × (after ≡ flags)

-- of each chunk that brick `id` lacks and that lies in the part, the flag of its place and row says whether it was met
pub record Met (c : Settings) (s : State) (id base : ℕ) (met : ℕ → Bool) (flags : List ℕ) : Type 0 where
  pub long : length flags ≡ part_rows
  pub says : (key place row : ℕ) → lacks s id key ≡ true → LiesAt c s (holder s key) key place (base + row) → row < part_rows
      → flag flags row place ≡ met key

-- a key is met: what it counts, and the flags after it
pub record Meets (c : Settings) (s : State) (id base key : ℕ) (flags after : List ℕ) (inside beyond : ℕ) : Type 0 where
  pub new : (met : ℕ → Bool) → Met c s id base met flags → inside ≡ cond ((lacks s id key and not (met key)) and in_part s base key) 1 0
  pub far : beyond ≡ cond (lacks s id key and beyond_part s base key) 1 0
  pub met : (met : ℕ → Bool) → Met c s id base met flags → Met c s id base (λ k. met k or eqb k key) after
