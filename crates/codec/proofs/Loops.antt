-- What code that writes values one after the other leaves: two values, a table.
use mathlib.Core.Path.{◌≡◌, refl, sym, ap, ◌∙◌}
use mathlib.Core.List.{List, [], ◌∷◌, ◌++◌}
use Prim.Native.Nat.{ℕ, ◌+◌, ◌≤◌, ◌<◌}
use native.Mathlib.Nat.{zero-mul, add-zero, not-suc-le-zero}
use native.Mathlib.Omega.{arith}
use lib.ListN.{length, take, drop, set}
use lib.Seq.{take_all, take-nil}
use Rattle.lists.specs.Runs.{run, on_run, enc_all}
use Rattle.lists.specs.Rows.{table_enc}
use Rattle.lists.proofs.Runs.{run_length, on_right, on_length, on_by, on_twice, on_within}
use Rattle.codec.specs.Codec.{Codec, Two, enc_two, Row, table}
use Rattle.codec.proofs.Laws.{Lawful, two_is, two_left, two_right}
use Rattle.codec.proofs.Focus.{on_whole}

on_front : (k : ℕ) (g : List ℕ → List ℕ) (w : List ℕ) → on_run 0 k g w ≡ g (take k w) ++ drop k w
unfolding on_run
on_front k g w = refl

-- ---- two values written one after the other
module _ {A B : Type 0} (c : Codec A) (d : Codec B) (l : Lawful c) (x : Two A B) where
  first_long : (v : List ℕ) → length v ≡ c.size + d.size → length (on_run 0 c.size (c.enc x.fst) v) ≡ c.size + d.size
  first_long v h =
      on_length 0 c.size (c.enc x.fst) v (omega arith) (l.keeps x.fst (take c.size v) (two_left c d v h)) ∙ h

  both_written : (v : List ℕ) → length v ≡ c.size + d.size
      → enc_two c d x v ≡ on_run c.size d.size (d.enc x.snd) (on_run 0 c.size (c.enc x.fst) v)
  both_written v h =
      let k : ℕ = c.size in
      let y : List ℕ = drop k v in
      let new : List ℕ = c.enc x.fst (take k v) in
      two_is c d x v
      ∙ ap (λ (z : List ℕ). new ++ z) (sym (on_whole d.size (d.enc x.snd) y (two_right c d v h)))
      ∙ sym (on_right 0 d.size (d.enc x.snd) k new y (l.keeps x.fst (take k v) (two_left c d v h)))
      ∙ rw (add-zero k) (ap (on_run k d.size (d.enc x.snd)) (sym (on_front k (c.enc x.fst) v)))

  pub then_written : (a : ℕ) (w : List ℕ) → a + (c.size + d.size) ≤ length w
      → on_run a (c.size + d.size) (enc_two c d x) w ≡ on_run (a + c.size) d.size (d.enc x.snd) (on_run a c.size (c.enc x.fst) w)
  then_written a w h =
      let n : ℕ = c.size + d.size in
      let f : List ℕ → List ℕ = on_run 0 c.size (c.enc x.fst) in
      let g : List ℕ → List ℕ = on_run c.size d.size (d.enc x.snd) in
      let lv : length (run a n w) ≡ n = run_length a n w h in
      let lf : length (f (run a n w)) ≡ n = first_long (run a n w) lv in
      let lu : length (on_run a n f w) ≡ length w = on_length a n f w h lf in
      on_by a n (enc_two c d x) (λ u. g (f u)) w (both_written (run a n w) lv)
      ∙ on_twice a n f g w h lf
      ∙ on_within a n c.size d.size (d.enc x.snd) (on_run a n f w) (omega arith) (omega arith)
      ∙ ap (on_run (a + c.size) d.size (d.enc x.snd))
      (on_within a n 0 c.size (c.enc x.fst) w h (omega arith) ∙ ap (λ (o : ℕ). on_run o c.size (c.enc x.fst) w) (add-zero a))

-- ---- a table: at most so many rows written, and none
module _ {A : Type 0} (r : Row A) (most : ℕ) where
  pub table_is : (l : List A) (w : List ℕ) → length l ≤ most → (table most r).enc l w ≡ table_enc r.size r.write l w
  unfolding table_enc
  table_is l w h = rw (take_all most l h)

  pub table_cleared : (w : List ℕ) → 0 < length w → (table most r).enc [] w ≡ set w 0 0
  unfolding enc_all
  table_cleared [] h = absurd (not-suc-le-zero h)
  table_cleared (x ∷ w) h = rw (take-nil {A = A} most, zero-mul r.size)
