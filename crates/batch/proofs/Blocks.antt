-- Blocks in lent bytes.
use mathlib.Core.Path.{◌≡◌, refl, sym, ap, ◌∙◌}
use mathlib.Core.List.{List, [], ◌∷◌, ◌++◌}
use mathlib.Core.Bool.{true, false}
use mathlib.Core.Logic.{◌⊎◌, inl, inr, ⊎_elim}
use Prim.Native.Nat.{ℕ, ◌+◌, ◌-◌, ◌≤◌, ◌<◌}
use native.Mathlib.Omega.{arith}
use lib.Dec.{leb, ltb}
use lib.ListN.{length, take, drop}
use borrow.Author.Tests.{leb-true, le-leb, lt-leb, ltb-false}
use Rattle.lists.specs.Tests.{◌and◌}
use Rattle.lists.specs.Runs.{run, on_run}
use Rattle.lists.proofs.Tests.{same_test, by, by_lt, either, yes_first}
use Rattle.lists.proofs.Runs.{run_length, on_length, on_same, on_before, on_after, on_id}
use Rattle.batch.specs.Batch.{block_at, with_block}

-- ---- so many bytes from a byte on
pub reach_same : (at size n : ℕ) → size ≤ n → leb at (n - size) ≡ leb (at + size) n
reach_same at size n h =
    same_test _ _ (λ y. le-leb (at + size) n (omega (arith, leb-true at (n - size) y))) (λ y. le-leb at (n - size) (omega (arith, leb-true (at + size) n y)))

pub reach_short : (at size n : ℕ) → n < size → false ≡ leb (at + size) n
reach_short at size n h = sym (lt-leb (at + size) n (omega arith))

pub nothing : (l : List ℕ) → length l ≡ 0 → l ≡ []
nothing [] h = refl
nothing (x ∷ l) h = absurd (omega arith)

-- ---- a block
module _ (size at : ℕ) (bytes : List ℕ) where
  pub block_none : leb (at + size) (length bytes) ≡ false → [] ≡ block_at size at bytes
  unfolding block_at
  block_none n = rw n

  module _ (y : leb (at + size) (length bytes) ≡ true) where
    pub block_there : (end : ℕ) → end ≡ at + size → take (end - at) (drop at bytes) ≡ block_at size at bytes
    unfolding block_at
    block_there end e = let q : end - at ≡ size = omega arith in rw (y, q)

    pub block_size : length (block_at size at bytes) ≡ size
    unfolding block_at
    block_size = rw y (run_length at size bytes (leb-true _ _ y))

    -- another one in its place
    pub with_there : (end : ℕ) → end ≡ at + size → (new : List ℕ) → take at bytes ++ (new ++ drop (end - at) (drop at bytes)) ≡ with_block size at new bytes
    unfolding with_block on_run
    with_there end e new = let q : end - at ≡ size = omega arith in rw (y, q)

  -- the block itself
  pub with_same : bytes ≡ with_block size at (block_at size at bytes) bytes
  unfolding with_block block_at
  with_same = by (leb (at + size) (length bytes)) (λ y. rw y (sym (on_id at size _ bytes refl))) (λ n. rw n refl)

-- two areas that agree there
pub block_same : (size at : ℕ) (bytes other : List ℕ) → length bytes ≡ length other → run at size bytes ≡ run at size other
    → block_at size at bytes ≡ block_at size at other
unfolding block_at
block_same size at bytes other e f = rw (e, f) refl

-- two runs that do not meet
pub apart : (a size b n : ℕ) → (ltb a (b + n) and ltb b (a + size)) ≡ false → (b + n ≤ a) ⊎ (a + size ≤ b)
apart a size b n f = by_lt a (b + n) (λ y _. inr (ltb-false b (a + size) (sym (yes_first _ _ y) ∙ f))) (λ _ h. inl h)

-- ---- another block of the same length
module _ (size at : ℕ) (bytes new : List ℕ) (h : length new ≡ length (block_at size at bytes)) where
  new_size : leb (at + size) (length bytes) ≡ true → length new ≡ size
  new_size y = h ∙ block_size size at bytes y

  pub with_length : length (with_block size at new bytes) ≡ length bytes
  unfolding with_block
  with_length =
      either (λ (l : List ℕ). length l ≡ length bytes) (leb (at + size) (length bytes))
      (λ y. on_length at size (λ _. new) bytes (leb-true _ _ y) (new_size y)) (λ _. refl)

  with_is : leb (at + size) (length bytes) ≡ true → with_block size at new bytes ≡ on_run at size (λ _. new) bytes
  unfolding with_block
  with_is y = rw y refl

  -- it is what then stands there
  pub block_with : block_at size at (with_block size at new bytes) ≡ new
  unfolding block_at
  block_with =
      by (leb (at + size) (length bytes))
      (λ y. rw (with_length, y) (ap (run at size) (with_is y) ∙ on_same at size (λ _. new) bytes (leb-true _ _ y) (new_size y)))
      (λ n. rw (with_length, n) (sym (nothing new (h ∙ ap length (sym (block_none size at bytes n))))))

  -- bytes before it or after it stay
  pub with_apart : (b n : ℕ) → (b + n ≤ at) ⊎ (at + size ≤ b) → run b n (with_block size at new bytes) ≡ run b n bytes
  unfolding with_block
  with_apart b n d =
      either (λ (l : List ℕ). run b n l ≡ run b n bytes) (leb (at + size) (length bytes))
      (λ y. ⊎_elim (λ g. on_before at size (λ _. new) b n bytes (leb-true _ _ y) g) (λ g. on_after at size (λ _. new) b n bytes (leb-true _ _ y) (new_size y) g)
      d)
      (λ _. refl)
