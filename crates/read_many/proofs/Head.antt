-- The head of an answer, its code and its key, and the bytes behind it, as they are written.
use mathlib.Core.Path.{◌≡◌, refl, ap, ◌∙◌}
use mathlib.Core.List.{List, [], ◌∷◌, ◌++◌, reverse, append-nil}
use Prim.Native.Nat.{ℕ, ◌-◌, ◌≤◌}
use native.Mathlib.Omega.{arith}
use lib.ListN.{length, take, drop, set, length-drop, drop_of_length-le}
use lib.Seq.{length-take-le, drop_at}
use Rattle.lists.specs.Runs.{run}
use Rattle.lists.proofs.Runs.{run_length}
use Rattle.words.specs.Words.{bytes_of}
use Rattle.rules.specs.Reads.{zeros}
use Rattle.read_many.specs.Read.{head, answer_bytes}

-- ---- the head
pub head_length : (code key : ℕ) → length (head code key) ≡ 9
unfolding head bytes_of
head_length code key = refl

pub head_set : (code key : ℕ) (old part : List ℕ) → 9 ≤ length old → part ≡ reverse (bytes_of 8 key)
    → take 1 (set old 0 code) ++ (part ++ drop 8 (drop 1 (set old 0 code))) ≡ head code key ++ drop 9 old
unfolding head
head_set code key [] part h e = absurd (omega arith)
head_set code key (x ∷ old) part h e = rw e refl

-- ---- the bytes behind the head, as a loan of them comes back
abbrev pub with_rest : List ℕ → List ℕ → List ℕ
with_rest l part = take 9 l ++ (part ++ drop (length l - 9) (drop 9 l))

pub rest_is : (l part : List ℕ) → 9 ≤ length l → drop 9 (with_rest l part) ≡ part
rest_is l part h =
    drop_at (take 9 l) _ 9 (length-take-le 9 l h) ∙ rw (drop_of_length-le (drop 9 l) {i = length l - 9} (omega (arith, length-drop 9 l))) (append-nil part)

pub rest_cleared : (size : ℕ) (l part : List ℕ) → length l ≡ answer_bytes size → part ≡ zeros (length (run 9 (length l - 9) l))
    → drop 9 (with_rest l part) ≡ zeros size
rest_cleared size l part h e = rest_is l part (omega arith) ∙ e ∙ ap zeros (run_length 9 (length l - 9) l (omega arith) ∙ omega arith)
