-- A buffer gone through for the entries of a bucket.
use mathlib.Core.Path.{◌≡◌, refl, sym, ap, ◌∙◌}
use mathlib.Core.Bool.{Bool, true, false, not, cond}
use mathlib.Core.List.{List, []}
use Prim.Native.Nat.{ℕ, suc, ◌+◌, ◌*◌, ◌≤◌, ◌<◌}
use native.Mathlib.Nat.{le_of_lt}
use native.Mathlib.Omega.{arith}
use lib.Dec.{eqb}
use lib.ListN.{length, get_or, set}
use Rattle.lists.specs.Tests.{only}
use Rattle.lists.proofs.Tests.{by}
use Rattle.rules.specs.Numbers.{bucket_of}
use Rattle.rules.specs.Entries.{is_of_bucket}
use Rattle.lists.specs.Rows.{table_dec, row_words}
use Rattle.tables.specs.Tables.{first_at, kept_rows, sifting}
use Rattle.tables.proofs.Changes.{word_at, kept_few, sift_read, sift_yes, sift_no, sift_end, kept_next}
use Rattle.layout.specs.Layout.{entries_codec}
use Rattle.entries.specs.Entries.{entries_words}
use Rattle.buffers.specs.Steps.{sifted, row_stays}
use Rattle.entries.proofs.Words.{entries, keep_rows}

module _ (most : ℕ) (ws : List ℕ) (hl : length ws ≡ entries_words most) (few : get_or ws 0 0 ≤ most) (count g : ℕ) where
  module _ (i o : ℕ) (v : List ℕ) (h : i < get_or ws 0 0) (ev : v ≡ sifting 2 (row_stays count g) i ws) (eo : o ≡ length (kept_rows 2 (row_stays count g) i ws)) where
    first_is : first_at 2 v i ≡ get_or (get_or (table_dec 2 row_words ws) i []) 0 0
    first_is =
        let z : 1 + i * 2 + 0 ≡ 1 + i * 2 = omega arith in
        rw (ev, ← z) (sift_read 2 most ws hl few (row_stays count g) i 0 (le_of_lt h) ∙ word_at 2 most ws hl few i 0 h (omega arith))

    pub buffer_low : o ≤ i
    buffer_low = rw eo (kept_few 2 most ws hl few (row_stays count g) i (le_of_lt h))

    pub buffer_turn : (v1 : List ℕ) → v1 ≡ sifted count g i o v → v1 ≡ sifting 2 (row_stays count g) (suc i) ws
    unfolding sifted
    buffer_turn v1 e =
        e ∙ rw first_is (by (eqb (bucket_of count (get_or (get_or (table_dec 2 row_words ws) i []) 0 0)) g)
        (λ q. rw q (ev ∙ sym (sift_no 2 most ws hl few (row_stays count g) i h (ap not q))))
        (λ q. rw (q, ev) (sift_yes 2 most ws hl few (row_stays count g) i (1 + o * 2) (1 + i * 2) h (ap not q) (rw eo) refl)))

    pub buffer_next : (r : ℕ) → r ≡ cond (eqb (bucket_of count (first_at 2 v i)) g) o (o + 1) → r ≡ length (kept_rows 2 (row_stays count g) (suc i) ws)
    buffer_next r e =
        e ∙ rw first_is (swap (eqb (bucket_of count (get_or (get_or (table_dec 2 row_words ws) i []) 0 0)) g)) ∙ kept_next 2 most ws hl few (row_stays count g) i o h eo
      where
        swap : (t : Bool) → cond t o (o + 1) ≡ cond (not t) (o + 1) o
        swap true = refl
        swap false = refl

  pub buffer_end : (i o : ℕ) → i ≡ get_or ws 0 0 → o ≡ length (kept_rows 2 (row_stays count g) i ws)
      → set (sifting 2 (row_stays count g) i ws) 0 o ≡ (entries_codec most).enc (only (λ e. not (is_of_bucket count g e)) (entries ws)) ws
  unfolding is_of_bucket
  buffer_end i o ei eo =
      rw eo (sift_end 2 most ws hl few (row_stays count g) i ei) ∙ keep_rows most ws hl few (row_stays count g) (λ e. not (eqb (bucket_of count e.block) g))
      (λ e. refl)
