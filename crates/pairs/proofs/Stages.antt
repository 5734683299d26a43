-- Every stage writes one bucket at a time.
use mathlib.Core.Path.{◌≡◌, ◌∙◌}
use Prim.Native.Nat.{ℕ, zero, suc, ◌+◌, ◌*◌, ◌≤◌, ◌<◌}
use native.Mathlib.Omega.{arith}
use lib.ListN.{length, set, length-set}
use lib.Seq.{get_or-set_same, get_or-set_other, set-get_or}
use Rattle.lists.proofs.Tests.{by_eq}
use Rattle.rules.specs.Pairs.{Assignments, id_in, in_order}
use Rattle.pairs.specs.Claims.{Buckets}

-- t is s with bucket g's pair written anew, to one with Q
pub record Writes (Q : ℕ → ℕ → Type 0) (g : ℕ) (s t : Assignments) : Type 0 where
  pub x : ℕ
  pub y : ℕ
  pub made : t ≡ set (set s (2 * g) x) (2 * g + 1) y
  pub good : Q x y

module _ (g : ℕ) (s : Assignments) where
  pub same_pair : s ≡ set (set s (2 * g) (id_in s (2 * g))) (2 * g + 1) (id_in s (2 * g + 1))
  same_pair = rw (set-get_or s (2 * g) 0, set-get_or s (2 * g + 1) 0)

  pub at_pair : (x y k : ℕ) → (k ≡ 2 * g → ⊥) → (k ≡ 2 * g + 1 → ⊥) → id_in (set (set s (2 * g) x) (2 * g + 1) y) k ≡ id_in s k
  at_pair x y k n m = get_or-set_other (set s (2 * g) x) (2 * g + 1) k y 0 m ∙ get_or-set_other s (2 * g) k x 0 n

  module _ (n : ℕ) (hg : g < n) (hl : length s ≡ 2 * n) where
    pub at_first : (x y : ℕ) → id_in (set (set s (2 * g) x) (2 * g + 1) y) (2 * g) ≡ x
    at_first x y = get_or-set_other (set s (2 * g) x) (2 * g + 1) (2 * g) y 0 (λ e. omega arith) ∙ get_or-set_same s (2 * g) x 0 (omega arith)

    pub at_second : (x y : ℕ) → id_in (set (set s (2 * g) x) (2 * g + 1) y) (2 * g + 1) ≡ y
    at_second x y = get_or-set_same (set s (2 * g) x) (2 * g + 1) y 0 (rw length-set (omega arith))

-- after m buckets those below m have Q and the others still have P
pub record Half (n : ℕ) (P Q : ℕ → ℕ → ℕ → Type 0) (m : ℕ) (s : Assignments) : Type 0 where
  pub long : length s ≡ 2 * n
  pub done : (g : ℕ) → g < m → Q g (id_in s (2 * g)) (id_in s (2 * g + 1))
  pub left : (g : ℕ) → m ≤ g → g < n → P g (id_in s (2 * g)) (id_in s (2 * g + 1))

module _ (n : ℕ) (P Q : ℕ → ℕ → ℕ → Type 0) where
  half_more : (m : ℕ) (s t : Assignments) → m < n → Half n P Q m s → Writes (Q m) m s t → Half n P Q (suc m) t
  half_more m s t hm h w = rw w.made (record { long = rw (length-set, length-set) h.long; done = now_done; left = now_left })
    where
      now_done : (g : ℕ) → g < suc m
          → Q g (id_in (set (set s (2 * m) w.x) (2 * m + 1) w.y) (2 * g)) (id_in (set (set s (2 * m) w.x) (2 * m + 1) w.y) (2 * g + 1))
      now_done g hg =
          by_eq g m (λ q e. rw (e, at_first m s n hm h.long w.x w.y, at_second m s n hm h.long w.x w.y) w.good)
          (λ q d. rw (
            at_pair m s w.x w.y (2 * g) (λ e. d (omega arith)) (λ e. omega arith),
            at_pair m s w.x w.y (2 * g + 1) (λ e. omega arith)
                (λ e. d (omega arith)),
          )
          (h.done g (omega (arith, d))))

      now_left : (g : ℕ) → suc m ≤ g → g < n
          → P g (id_in (set (set s (2 * m) w.x) (2 * m + 1) w.y) (2 * g)) (id_in (set (set s (2 * m) w.x) (2 * m + 1) w.y) (2 * g + 1))
      now_left g hg hn =
          rw (
            at_pair m s w.x w.y (2 * g) (λ e. omega arith) (λ e. omega arith),
            at_pair m s w.x w.y (2 * g + 1) (λ e. omega arith)
                (λ e. omega arith),
          )
          (h.left g (omega arith) hn)

  -- a stage: where f makes of each pair with P one with Q
  module _ (f : ℕ → Assignments → Assignments)
      (step : (g : ℕ) (s : Assignments) → g < n → length s ≡ 2 * n → P g (id_in s (2 * g)) (id_in s (2 * g + 1)) → Writes (Q g) g s (f g s)) (s : Assignments)
      (hl : length s ≡ 2 * n) (hs : Buckets n P s) where
    halves : (m : ℕ) → m ≤ n → Half n P Q m (in_order m f s)
    unfolding in_order
    halves zero h = record { long = hl; done = λ g p. absurd (omega arith); left = λ g _ p. hs g p }
    halves (suc m) h =
        let i = halves m (omega arith) in
        half_more m (in_order m f s) (f m (in_order m f s)) (omega arith) i (step m (in_order m f s) (omega arith) i.long
        (i.left m (omega arith) (omega arith)))

    pub stage : Buckets n Q (in_order n f s)
    stage = (halves n (omega arith)).done
