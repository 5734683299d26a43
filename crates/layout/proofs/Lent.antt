-- Code that lends a part of a slice: what its words are, and how long the slice is afterwards.
use mathlib.Core.Path.{◌≡◌}
use mathlib.Core.List.{List, ◌++◌}
use Prim.Native.Nat.{ℕ, ◌+◌, ◌*◌, ◌-◌, ◌≤◌}
use native.Mathlib.Omega.{arith}
use lib.ListN.{length, take, drop, length-append, length-drop}
use lib.Seq.{length-take-le}
use Rattle.lists.specs.Runs.{run}
use Rattle.words.specs.Words.{words}
use Rattle.words.proofs.Laws.{words_part}

-- &s[o..e], n words from word a on
pub lent : (s : List ℕ) (o e a n : ℕ) → o ≡ 8 * a → e ≡ o + 8 * n → 8 * (a + n) ≤ length s → words (take (e - o) (drop o s)) ≡ run a n (words s)
lent s o e a n eo ee h = words_part s o (e - o) a n eo (omega arith) (omega arith)

-- a part that comes back as long as it was leaves the slice as long as it was
pub lent_length : (s t : List ℕ) (o k : ℕ) → o + k ≤ length s → length t ≡ k → length (take o s ++ (t ++ drop k (drop o s))) ≡ length s
lent_length s t o k h e = simp (length-append, length-drop, length-take-le o s (omega arith)) (omega arith)
