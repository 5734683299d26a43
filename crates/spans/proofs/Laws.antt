-- What a copy of words through an array leaves.
use mathlib.Core.Path.{◌≡◌, refl, sym, ap, ◌∙◌}
use mathlib.Core.List.{List, ◌++◌, append_assoc}
use Prim.Native.Nat.{ℕ, ◌+◌, ◌*◌, ◌-◌, ◌≤◌}
use native.Mathlib.Omega.{arith}
use lib.ListN.{length, take, drop}
use lib.Seq.{take_at, drop-drop, paste}
use Rattle.lists.proofs.Runs.{run_length}
use Rattle.words.specs.Words.{words}
use Rattle.words.proofs.Laws.{words_part, words_back}

-- what lies in a part that was lent and written over
pub lent : (l t u : List ℕ) (n : ℕ) → length u ≡ n → t ≡ u → take n (t ++ drop n l) ≡ u
lent l t u n h e = rw e (take_at u (drop n l) n h)

-- k bytes from `at`, as the code cuts them out; and what a run of words is after they were written over it
abbrev pub part : ℕ → ℕ → List ℕ → List ℕ
part at k s = take (at + k - at) (drop at s)

pub part_length : (at k : ℕ) (s : List ℕ) → at + k ≤ length s → length (part at k s) ≡ k
part_length at k s h =
    let e : at + k - at ≡ k = omega arith in
    rw e (run_length at k s h)

pub part_moved : (s t : List ℕ) (from to n : ℕ) → 8 * (from + n) ≤ length s → 8 * (to + n) ≤ length s → t ≡ part (8 * from) (8 * n) s
    → words (take (8 * to) s ++ (t ++ drop (8 * to + 8 * n - 8 * to) (drop (8 * to) s))) ≡ paste (words s) to (drop from (words s)) n
part_moved s t from to n hf ht e =
    let ef : 8 * from + 8 * n - 8 * from ≡ 8 * n = omega arith in
    let et : 8 * to + 8 * n - 8 * to ≡ 8 * n = omega arith in
    words_back s (8 * to) (8 * to + 8 * n - 8 * to) to n refl et (omega arith) t (ap length e ∙ part_length (8 * from) (8 * n) s (omega arith))
    ∙ rw (e, words_part s (8 * from) (8 * from + 8 * n - 8 * from) from n refl ef (omega arith), drop-drop n to (words s))
    (sym (append_assoc (take to (words s)) (take n (drop from (words s))) (drop (to + n) (words s))))
