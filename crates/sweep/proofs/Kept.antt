-- The chunks that stay, and their ranks.
use mathlib.Core.Path.{◌≡◌, refl, sym, ap, ◌∙◌}
use mathlib.Core.Logic.{◌≢◌}
use mathlib.Core.Bool.{true, false, cond}
use mathlib.Core.List.{List, [], ◌∷◌, ◌++◌}
use Prim.Native.Nat.{ℕ, zero, suc, ◌+◌, ◌/◌, ◌%◌, ◌≤◌, ◌<◌}
use native.Mathlib.Nat.{le_refl, le_of_lt, not-suc-le-zero}
use native.Mathlib.Omega.{arith}
use lib.ListN.{length, take, length-append, get_or-append}
use lib.Seq.{take_all, get_or-append_seam, take-suc}
use borrow.Author.Tests.{eqb-true, eqb-false}
use Rattle.lists.specs.Runs.{Sized, none}
use Rattle.lists.proofs.Tests.{by, by_eq, by_lt}
use Rattle.lists.proofs.Runs.{sized_at}
use Rattle.chunk_log.specs.Log.{Stored, stored, cell_of, stored_at, key_at, saved_of, positions_of}
use Rattle.chunk_log.proofs.Positions as order
use Rattle.chunk_log.proofs.Positions.{pick}
use Rattle.chunk_log.proofs.Changes.{sized_more}
use Rattle.sweep.specs.Sweep.{stays, plain, kept_chunks, kept_first, rank}

kept_more : (xs : List Stored) (x : Stored) → kept_chunks (xs ++ x ∷ []) ≡ cond (stays x.saved) (kept_chunks xs ++ plain x ∷ []) (kept_chunks xs)
unfolding kept_chunks
kept_more [] x = by (stays x.saved) (λ e. rw e) (λ e. rw e)
kept_more (y ∷ xs) x =
    by (stays y.saved) (λ e. rw (e, kept_more xs x) (by (stays x.saved) (λ u. rw u) (λ u. rw u)))
    (λ e. rw (e, kept_more xs x))

kept_first_take : (cs : List Stored) (i : ℕ) → i ≤ length cs → kept_first cs i ≡ kept_chunks (take i cs)
unfolding kept_first kept_chunks
kept_first_take cs zero h = refl
kept_first_take cs (suc i) h =
    rw (take-suc cs i (stored 0 0 []) h, kept_more (take i cs) (stored_at cs i), kept_first_take cs i (le_of_lt h))

pub kept_first_kept : (cs : List Stored) → kept_first cs (length cs) ≡ kept_chunks cs
kept_first_kept cs = kept_first_take cs (length cs) (le_refl (length cs)) ∙ ap kept_chunks (take_all (length cs) cs (le_refl (length cs)))

module _ (cs : List Stored) (i : ℕ) where
  pub kept_first_yes : stays (saved_of cs i) ≡ true → kept_first cs (suc i) ≡ kept_first cs i ++ plain (stored_at cs i) ∷ []
  unfolding kept_first
  kept_first_yes e = rw e

  pub kept_first_no : stays (saved_of cs i) ≡ false → kept_first cs (suc i) ≡ kept_first cs i
  unfolding kept_first
  kept_first_no e = rw e

  pub length_yes : stays (saved_of cs i) ≡ true → length (kept_first cs (suc i)) ≡ suc (length (kept_first cs i))
  length_yes e = rw (kept_first_yes e, length-append) (omega arith)

pub kept_first_none : (cs : List Stored) → kept_first cs 0 ≡ []
unfolding kept_first
kept_first_none cs = refl

pub kept_first_few : (cs : List Stored) (i : ℕ) → length (kept_first cs i) ≤ i
unfolding kept_first
kept_first_few cs zero = omega arith
kept_first_few cs (suc i) =
    let h = kept_first_few cs i in
    by (stays (saved_of cs i)) (λ e. rw (e, length-append) (omega arith)) (λ e. rw e (omega arith))

pub kept_first_sized : {w : ℕ} (cs : List Stored) (i : ℕ) → i ≤ length cs → Sized cell_of w cs → Sized cell_of w (kept_first cs i)
unfolding kept_first
kept_first_sized cs zero h s = none
kept_first_sized {w} cs (suc i) h s =
    by (stays (saved_of cs i)) (λ e. rw e (sized_more (plain (stored_at cs i)) (kept_first_sized cs i (le_of_lt h) s)
    (sized_at cell_of w i (stored 0 0 []) s h)))
    (λ e. rw e (kept_first_sized cs i (le_of_lt h) s))

kept_first_grows : (cs : List Stored) (i : ℕ) → stays (saved_of cs i) ≡ true → (k : ℕ) → i < k → length (kept_first cs i) < length (kept_first cs k)
kept_first_grows cs i e zero l = absurd (not-suc-le-zero l)
kept_first_grows cs i e (suc k) l =
    by_eq i k (λ _ q. let z = length_yes cs i e in rw (← q) (omega arith))
    (λ _ q. let z = kept_first_grows cs i e k (omega arith) in
    by (stays (saved_of cs k)) (λ u. let y = length_yes cs k u in omega arith) (λ u. rw (kept_first_no cs k u) z))

pub kept_first_at : (cs : List Stored) (i n : ℕ) → i < n → stays (saved_of cs i) ≡ true → stored_at (kept_first cs n) (length (kept_first cs i))
    ≡ plain (stored_at cs i)
kept_first_at cs i zero h e = absurd (not-suc-le-zero h)
kept_first_at cs i (suc n) h e =
    by_eq i n
    (λ _ q. rw (← q, kept_first_yes cs i e) (get_or-append_seam (kept_first cs i) (plain (stored_at cs i)) [] (stored 0 0 [])))
    (λ _ q. let l : i < n = omega arith in
    let z = kept_first_grows cs i e n l in
    by (stays (saved_of cs n))
    (λ u. rw (kept_first_yes cs n u, get_or-append (kept_first cs n) (plain (stored_at cs n) ∷ []) (stored 0 0 []) (length (kept_first cs i)) z)
    (kept_first_at cs i n l e))
    (λ u. rw (kept_first_no cs n u) (kept_first_at cs i n l e)))

-- ranks, where the saved words are below 4
module _ (cs : List Stored) (n : ℕ) (low : (i : ℕ) → i < n → saved_of cs i ≤ 3) where
  pub rank_yes : (i : ℕ) → i < n → stays (saved_of cs i) ≡ true → rank (saved_of cs) (suc i) ≡ suc (rank (saved_of cs) i)
  unfolding rank
  rank_yes i h e =
      let t : saved_of cs i % 4 / 2 ≡ 1 = eqb-true (saved_of cs i % 4 / 2) 1 e in
      let l = low i h in omega arith

  pub rank_no : (i : ℕ) → i < n → stays (saved_of cs i) ≡ false → rank (saved_of cs) (suc i) ≡ rank (saved_of cs) i
  unfolding rank
  rank_no i h e =
      let l = low i h in
      by_eq (saved_of cs i % 4 / 2) 1 (λ _ q. absurd (eqb-false (saved_of cs i % 4 / 2) 1 e q)) (λ _ q. zero_case (saved_of cs i) l q)
    where
      zero_case : (s : ℕ) → s ≤ 3 → (s % 4 / 2 ≡ 1 → ⊥) → rank (saved_of cs) i + s / 2 ≡ rank (saved_of cs) i
      zero_case s l q = by_lt s 2 (λ _ h. omega arith) (λ _ h. absurd (q (omega arith)))

  pub length_kept_first : (i : ℕ) → i ≤ n → length (kept_first cs i) ≡ rank (saved_of cs) i
  unfolding rank kept_first
  length_kept_first zero h = refl
  length_kept_first (suc i) h =
      let r = length_kept_first i (le_of_lt h) in
      by (stays (saved_of cs i)) (λ e. length_yes cs i e ∙ ap suc r ∙ sym (rank_yes i h e))
      (λ e. ap length (kept_first_no cs i e) ∙ r ∙ sym (rank_no i h e))

  -- the positions of those that stay
  pub position_kept : n ≡ length cs → ((i j : ℕ) → i < j → j < length cs → key_at cs i ≢ key_at cs j)
      → order.pick (λ q. stays (saved_of cs q)) (rank (saved_of cs)) (positions_of cs) ≡ positions_of (kept_first cs n)
  unfolding positions_of rank
  position_kept e d =
      rw (← e, length_kept_first n (le_refl n)) (order.renumbered (λ q. stays (saved_of cs q)) (rank (saved_of cs)) (key_at cs) (key_at (kept_first cs n)) n
      (λ i j p q. d i j p (rw e at q)) refl rank_yes rank_no
      (λ i h t. rw (← length_kept_first i (le_of_lt h)) (ap (λ (x : Stored). x.key) (kept_first_at cs i n h t))))
