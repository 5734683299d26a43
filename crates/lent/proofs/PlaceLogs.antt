-- The log lent from a place's part: bytes o to e of it.
use mathlib.Core.Path.{◌≡◌, ◌∙◌}
use mathlib.Core.List.{List, ◌++◌}
use Prim.Native.Nat.{ℕ, ◌+◌, ◌*◌, ◌-◌, ◌/◌, ◌≤◌, ◌<◌}
use native.Mathlib.Omega.{arith}
use lib.ListN.{length, take, drop, get_or, length-drop}
use lib.Seq.{length-take-le}
use Rattle.lists.specs.Runs.{run, on_run}
use Rattle.words.specs.Words.{words}
use Rattle.words.proofs.Laws.{lent_run}
use Rattle.rules.specs.declared.settings.Settings.{Settings}
use Rattle.chunk_log.specs.Log.{IsLog}
use Rattle.layout.specs.Layout.{word_bytes, log_words, log_at}
use Rattle.layout.proofs.Lent.{lent}
use Rattle.lent.specs.Places.{PlaceLog}

module _ (c : Settings) (s : List ℕ) (i : PlaceLog c (words s) (length s)) (o e : ℕ) (eo : o ≡ 8 * log_at c) (ee : e ≡ o + 8 * log_words c) where
  inside : 8 * (log_at c + log_words c) ≤ length s
  inside = omega (arith, i.size)

  part_is : words (take (e - o) (drop o s)) ≡ run (log_at c) (log_words c) (words s)
  part_is = lent s o e (log_at c) (log_words c) eo ee inside

  pub part_log : IsLog c.chunks (c.size / word_bytes) (words (take (e - o) (drop o s))) (length (take (e - o) (drop o s)))
  part_log =
      let l = inside in
      let room : e - o ≤ length (drop o s) = rw length-drop (omega arith) in
      let size : length (take (e - o) (drop o s)) ≡ 8 * log_words c = length-take-le (e - o) (drop o s) room ∙ omega arith in
      rw (part_is, size) i.log

  pub part_room : get_or (run (log_at c) (log_words c) (words s)) 0 0 < c.chunks → get_or (words (take (e - o) (drop o s))) 0 0 < c.chunks
  part_room r = rw part_is r

  pub part_back : (g : List ℕ → List ℕ) (t : List ℕ) → length t ≡ e - o → words t ≡ g (words (take (e - o) (drop o s)))
      → words (take o s ++ (t ++ drop (e - o) (drop o s))) ≡ on_run (log_at c) (log_words c) g (words s)
  part_back g t lt et =
      let l = inside in
      lent_run s t o (e - o) (log_at c) (log_words c) g eo (omega arith) (omega arith) (omega arith) et
