-- What the facts about pairs speak of.
use Rattle.std.specs.Prelude.{◌≡◌, List, [], ◌∷◌, true, false, ℕ, ◌+◌, ◌*◌, ◌≤◌, ◌<◌, length}
use Rattle.rules.specs.Pairs.{Assignments, id_in, among, load, filled, share, pairs}

abbrev pub Distinct : List ℕ → Type 0
Distinct [] = Unit {0}
Distinct (m ∷ ms) = (among ms m ≡ false) × Distinct ms

-- the members of a view
pub record Members (ms : List ℕ) : Type 0 where
  pub two : 2 ≤ length ms
  pub distinct : Distinct ms
  pub no_zero : among ms 0 ≡ false

-- two different members
pub record Apart (ms : List ℕ) (x y : ℕ) : Type 0 where
  pub primary : among ms x ≡ true
  pub backup : among ms y ≡ true
  pub apart : x ≡ y → ⊥

-- bucket by bucket, something of its number, its primary and its backup
abbrev pub Buckets : ℕ → (ℕ → ℕ → ℕ → Type 0) → Assignments → Type 0
Buckets n P s = (g : ℕ) → g < n → P g (id_in s (2 * g)) (id_in s (2 * g + 1))

-- a pair (x, y) has what the last pair (a, b) left: a member stays in its role, and a lone backup is primary
pub record Held (ms : List ℕ) (a b x y : ℕ) : Type 0 where
  pub primary : among ms a ≡ true → x ≡ a
  pub backup : among ms a ≡ true → among ms b ≡ true → (b ≡ a → ⊥) → y ≡ b
  pub lone : among ms a ≡ false → among ms b ≡ true → x ≡ b

-- what holds of the pairs of a view
pub record ViewPairs (n : ℕ) (ms : List ℕ) (last : Assignments) : Type 0 where
  pub count : length (pairs n ms last) ≡ 2 * n
  -- each pair has two different members
  pub apart : Buckets n (λ _ x y. Apart ms x y) (pairs n ms last)
  -- no member has more than the share
  pub fair : (x : ℕ) → among ms x ≡ true → load (pairs n ms last) x ≤ share n (length ms)
  -- a next view with the same members moves nothing
  pub again : pairs n ms (pairs n ms last) ≡ pairs n ms last
  -- all members of the last pairs are there once the empty positions are filled, and a brick that then has no more than the share keeps its positions
  pub held : Buckets n (λ g x y. Held ms (id_in last (2 * g)) (id_in last (2 * g + 1)) x y) (filled n ms last)
  pub stays : (x k : ℕ) → load (filled n ms last) x ≤ share n (length ms) → id_in (filled n ms last) k ≡ x → id_in (pairs n ms last) k ≡ x
