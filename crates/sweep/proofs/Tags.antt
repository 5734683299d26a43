-- Chunks with other saved words.
use mathlib.Core.Path.{◌≡◌, refl, ap}
use mathlib.Core.List.{List, [], ◌∷◌, ◌++◌, map}
use Prim.Native.Nat.{ℕ, zero, suc, ◌≤◌, ◌<◌, suc-le-suc}
use native.Mathlib.Nat.{not-suc-le-zero, le_of_suc-le-suc}
use native.Mathlib.Omega.{arith}
use lib.ListN.{length}
use Rattle.lists.specs.Runs.{enc_all}
use Rattle.chunk_log.specs.Log.{Stored, cell_of, stored_at, key_at, positions_of}
use Rattle.chunk_log.specs.Steps.{with_saved, tag}
use Rattle.chunk_log.proofs.Positions as order
use Rattle.chunk_log.proofs.Changes.{tag_length}

pub tag_past : (g : ℕ → ℕ) (i : ℕ) (cs : List Stored) (j : ℕ) → i ≤ j → stored_at (tag g i cs) j ≡ stored_at cs j
unfolding tag
tag_past g zero cs j h = refl
tag_past g (suc i) [] j h = refl
tag_past g (suc i) (x ∷ cs) zero h = absurd (not-suc-le-zero h)
tag_past g (suc i) (x ∷ cs) (suc j) h = tag_past (λ k. g (suc k)) i cs j (le_of_suc-le-suc h)

pub tag_at : (g : ℕ → ℕ) (i : ℕ) (cs : List Stored) (j : ℕ) → j < i → j < length cs → stored_at (tag g i cs) j ≡ with_saved (g j) (stored_at cs j)
unfolding tag
tag_at g zero cs j h l = absurd (not-suc-le-zero h)
tag_at g (suc i) [] j h l = absurd (not-suc-le-zero l)
tag_at g (suc i) (x ∷ cs) zero h l = refl
tag_at g (suc i) (x ∷ cs) (suc j) h l = tag_at (λ k. g (suc k)) i cs j (le_of_suc-le-suc h) (le_of_suc-le-suc l)

pub tag_key : (g : ℕ → ℕ) (i : ℕ) (cs : List Stored) (j : ℕ) → key_at (tag g i cs) j ≡ key_at cs j
unfolding tag
tag_key g zero cs j = refl
tag_key g (suc i) [] j = refl
tag_key g (suc i) (x ∷ cs) zero = refl
tag_key g (suc i) (x ∷ cs) (suc j) = tag_key (λ k. g (suc k)) i cs j

pub tag_cells : (g : ℕ → ℕ) (i : ℕ) (cs : List Stored) → enc_all cell_of (tag g i cs) ≡ enc_all cell_of cs
unfolding tag enc_all
tag_cells g zero cs = refl
tag_cells g (suc i) [] = refl
tag_cells g (suc i) (x ∷ cs) = ap (λ (l : List ℕ). x.cell ++ l) (tag_cells (λ k. g (suc k)) i cs)

pub tag_position : (g : ℕ → ℕ) (i : ℕ) (cs : List Stored) → positions_of (tag g i cs) ≡ positions_of cs
unfolding positions_of
tag_position g i cs = rw tag_length (order.positions_same (key_at (tag g i cs)) (key_at cs) (length cs) (λ j _. tag_key g i cs j))

-- only the saved words in use count
pub tag_same : (g h : ℕ → ℕ) (i : ℕ) (cs : List Stored) → ((j : ℕ) → j < i → g j ≡ h j) → tag g i cs ≡ tag h i cs
unfolding tag
tag_same g h zero cs e = refl
tag_same g h (suc i) [] e = refl
tag_same g h (suc i) (x ∷ cs) e =
    rw (e 0 (omega arith)) (ap (λ (l : List Stored). with_saved (h 0) x ∷ l)
    (tag_same (λ k. g (suc k)) (λ k. h (suc k)) i cs (λ j l. e (suc j) (suc-le-suc l))))

pub tag_map : (f : Stored → ℕ) (cs : List Stored) → tag (λ j. f (stored_at cs j)) (length cs) cs ≡ map (λ x. with_saved (f x) x) cs
unfolding tag
tag_map f [] = refl
tag_map f (x ∷ cs) = ap (λ (l : List Stored). with_saved (f x) x ∷ l) (tag_map f cs)

-- tagged twice
pub tag_tag : (g h : ℕ → ℕ) (i : ℕ) (cs : List Stored) → tag g i (tag h i cs) ≡ tag g i cs
unfolding tag
tag_tag g h zero cs = refl
tag_tag g h (suc i) [] = refl
tag_tag g h (suc i) (x ∷ cs) = ap (λ (l : List Stored). with_saved (g 0) x ∷ l) (tag_tag (λ k. g (suc k)) (λ k. h (suc k)) i cs)
