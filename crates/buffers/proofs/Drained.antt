-- A bucket's entries taken from a buffer into a copy, both in one list of words.
use mathlib.Core.Path.{◌≡◌, refl, sym, ap, ◌∙◌}
use mathlib.Core.Bool.{true, false}
use mathlib.Core.List.{List}
use Prim.Native.Nat.{ℕ, suc, ◌+◌, ◌*◌, ◌≤◌, ◌<◌}
use native.Mathlib.Nat.{add-zero, le_refl}
use native.Mathlib.Omega.{arith}
use lib.Dec.{eqb}
use lib.ListN.{length, get_or, take, drop}
use lib.Seq.{take_all, get_or-take, get_or-drop}
use Rattle.lists.specs.Tests.{only}
use Rattle.lists.specs.Runs.{run, on_run}
use Rattle.lists.proofs.Tests.{by}
use Rattle.lists.proofs.Lists.{only_more}
use Rattle.lists.proofs.Runs.{run_length, on_at_before, on_by, on_id, on_twice, on_same}
use Rattle.rules.specs.Numbers.{bucket_of}
use Rattle.rules.specs.Entries.{Entry, entry, is_of_bucket, insert_if_room, drain, ascending}
use Rattle.tables.specs.Tables.{Sorted}
use Rattle.codec.specs.Codec.{change}
use Rattle.layout.specs.Layout.{entries_codec}
use Rattle.entries.specs.Entries.{entries_words, entry_at}
use Rattle.buffers.specs.Steps.{drained_at, drained_words, Drains}
use Rattle.entries.proofs.Sorted.{take_grows, drain_more, drain_ascends, drain_few}
use Rattle.entries.proofs.Words.{entries, entries_back, entries_keeps, entries_over, entries_clean, entries_length, at_words, sorted_of, sorted_ascends}

-- the copy after the first i entries of the buffer
abbrev pub drained : ℕ → ℕ → ℕ → ℕ → ℕ → ℕ → List ℕ → ℕ → List Entry
drained count g buffer waiting copy most ws i =
    drain most (entries (run copy (entries_words most) ws)) (only (is_of_bucket count g) (take i (entries (run buffer (entries_words waiting) ws))))

module _ (count g buffer waiting copy most : ℕ) (ws : List ℕ) where
  abbrev size : ℕ
  size = entries_words most

  -- the words of the copy, and the entries that wait
  abbrev part : List ℕ
  part = run copy (entries_words most) ws

  abbrev queue : List ℕ
  queue = run buffer (entries_words waiting) ws

  abbrev after : ℕ → List Entry
  after i = drained count g buffer waiting copy most ws i

  module _ (len : ℕ) (d : Drains buffer waiting copy most ws len) (hw : copy + entries_words most ≤ length ws) where
    part_length : length part ≡ size
    part_length = run_length copy size ws hw

    queue_length : length queue ≡ entries_words waiting
    queue_length = let a = d.apart in run_length buffer (entries_words waiting) ws (omega arith)

    queue_count : get_or queue 0 0 ≡ get_or ws buffer 0
    queue_count = get_or-take (entries_words waiting) (drop buffer ws) 0 0 (omega arith) ∙ get_or-drop buffer ws 0 0 ∙ rw (add-zero buffer)

    queue_few : get_or queue 0 0 ≤ waiting
    queue_few = rw queue_count d.few

    part_ascends : ascending 0 (entries part) ≡ true
    part_ascends = sorted_ascends most part (8 * size) part_length d.sorted

    part_few : length (entries part) ≤ most
    part_few = rw (entries_length most part part_length d.sorted.few) d.sorted.few

    few_after : (i : ℕ) → length (after i) ≤ most
    few_after i = drain_few most (entries part) (only (is_of_bucket count g) (take i (entries queue))) part_ascends part_few

    module _ (i : ℕ) where
      after_ascends : ascending 0 (after i) ≡ true
      after_ascends = drain_ascends most (entries part) (only (is_of_bucket count g) (take i (entries queue))) part_ascends

      written : length ((entries_codec most).enc (after i) part) ≡ size
      written = entries_keeps most part part_length (after i)

      module _ (v : List ℕ) (ev : v ≡ on_run copy size ((entries_codec most).enc (after i)) ws) where
        part_is : run copy size v ≡ (entries_codec most).enc (after i) part
        part_is = rw ev (on_same copy size ((entries_codec most).enc (after i)) ws hw written)

        -- the copy is a sorted table still
        pub still_sorted : Sorted 2 most (run copy size v) (8 * size)
        still_sorted =
            rw part_is (sorted_of most ((entries_codec most).enc (after i) part) (8 * size) written refl (few_after i)
            (rw (entries_back most part part_length (after i) (few_after i)) after_ascends))

        -- one entry taken in
        taken : (e : Entry) → length (insert_if_room most (after i) e) ≤ most
            → on_run copy size (change (entries_codec most) (λ l. insert_if_room most l e)) v ≡ on_run copy size
            ((entries_codec most).enc (insert_if_room most (after i) e)) ws
        taken e few =
            let f : List ℕ → List ℕ = change (entries_codec most) (λ l. insert_if_room most l e) in
            ap (on_run copy size f) ev ∙ sym (on_twice copy size ((entries_codec most).enc (after i)) f ws hw written)
            ∙ on_by copy size (λ c. f ((entries_codec most).enc (after i) c)) ((entries_codec most).enc (insert_if_room most (after i) e)) ws
            (rw (entries_back most part part_length (after i) (few_after i))
            (entries_over most part part_length (after i) (insert_if_room most (after i) e) (take_grows most (after i) e after_ascends) few))

        module _ (at : ℕ) (ea : at ≡ buffer + (1 + i * 2)) (h : i < get_or ws buffer 0) where
          abbrev next : Entry
          next = entry (get_or v at 0) (get_or v (at + 1) 0)

          next_is : entry_at (entries queue) i ≡ next
          next_is =
              let a = d.apart in
              let f = d.few in
              let one : (j : ℕ) → j < entries_words waiting → get_or queue j 0 ≡ get_or v (buffer + j) 0 = λ j q.
              get_or-take (entries_words waiting) (drop buffer ws) j 0 q ∙ get_or-drop buffer ws j 0
              ∙ sym (rw ev (on_at_before copy size ((entries_codec most).enc (after i)) ws (buffer + j) (omega arith) (omega arith))) in
              let e2 : buffer + (2 + i * 2) ≡ at + 1 = omega arith in
              at_words waiting queue queue_length queue_few i (rw queue_count h) ∙ rw (one (1 + i * 2) (omega arith), one (2 + i * 2) (omega arith), e2, ea)

          in_queue : i < length (entries queue)
          in_queue = rw (entries_length waiting queue queue_length queue_few, queue_count) h

          yes : eqb (bucket_of count (get_or v at 0)) g ≡ true → after (suc i) ≡ insert_if_room most (after i) next
          unfolding is_of_bucket
          yes q =
              let z : is_of_bucket count g (entry_at (entries queue) i) ≡ true = rw next_is q in
              ap (drain most (entries part)) (only_more (is_of_bucket count g) (entries queue) i (entry 0 0) in_queue ∙ rw z)
              ∙ drain_more most (entries part) (only (is_of_bucket count g) (take i (entries queue))) (entry_at (entries queue) i)
              ∙ ap (insert_if_room most (after i)) next_is

          no : eqb (bucket_of count (get_or v at 0)) g ≡ false → after (suc i) ≡ after i
          unfolding is_of_bucket
          no q =
              let z : is_of_bucket count g (entry_at (entries queue) i) ≡ false = rw next_is q in
              ap (drain most (entries part)) (only_more (is_of_bucket count g) (entries queue) i (entry 0 0) in_queue ∙ rw z)

          pub drain_turn : (v1 : List ℕ) → v1 ≡ drained_at count g at copy most v → v1 ≡ on_run copy size ((entries_codec most).enc (after (suc i))) ws
          unfolding drained_at
          drain_turn v1 e =
              e ∙ by (eqb (bucket_of count (get_or v at 0)) g) (λ q. rw (q, yes q) (taken next (rw (yes q) at (few_after (suc i))))) (λ q. rw (q, no q) ev)

    pub drain_start : ws ≡ on_run copy size ((entries_codec most).enc (after 0)) ws
    unfolding drain only
    drain_start = sym (on_id copy size ((entries_codec most).enc (entries part)) ws (entries_clean most part part_length))

    pub drain_end : (i : ℕ) → i ≡ get_or ws buffer 0
        → on_run copy size ((entries_codec most).enc (after i)) ws ≡ drained_words count g buffer waiting copy most ws
    drain_end i e =
        let all = take_all i (entries queue) (rw (entries_length waiting queue queue_length queue_few, queue_count, e) (le_refl (get_or ws buffer 0))) in
        on_by copy size ((entries_codec most).enc (after i)) (change (entries_codec most) (λ l. drain most l (only (is_of_bucket count g) (entries queue)))) ws
        (ap (λ (l : List Entry). (entries_codec most).enc (drain most (entries part) (only (is_of_bucket count g) l)) part) all)
