-- Marks in a log that lies in a store: over other marks, and what lies beside the log.
use mathlib.Core.Path.{◌≡◌, refl, sym, ap, ◌∙◌}
use mathlib.Core.Logic.{◌⊎◌, inl, inr}
use mathlib.Core.Bool.{Bool, true, false}
use mathlib.Core.List.{List, ◌++◌}
use Rattle.std.specs.Prelude.{Option, Some, None}
use Prim.Native.Nat.{ℕ, zero, suc, ◌+◌, ◌*◌, ◌-◌, ◌/◌, ◌≤◌, ◌<◌}
use native.Mathlib.Numerals.{add-one}
use native.Mathlib.Nat.{add-zero}
use native.Mathlib.Omega.{arith}
use lib.Dec.{eqb}
use lib.ListN.{length, take, drop, get_or, length-drop}
use lib.Seq.{length-take-le}
use borrow.Author.Tests.{eq-eqb, eqb-true}
use Rattle.lists.specs.Tests.{◌or◌, any_below}
use Rattle.lists.specs.Runs.{run}
use Rattle.lists.proofs.Tests.{same_test}
use Rattle.lists.proofs.Runs.{run_length, on_by, on_id, on_same, on_at_before, on_twice}
use Rattle.words.specs.Words.{words}
use Rattle.words.proofs.Laws.{lent_run}
use Rattle.rules.specs.declared.settings.Settings.{Settings}
use Rattle.rules.specs.Limits.{buckets}
use Rattle.chunk_log.specs.Log.{LogWith}
use Rattle.chunk_log.proofs.Chunks.{fits_read, length_write}
use Rattle.sweep.specs.Marks.{with_marks, swept}
use Rattle.sweep.proofs.Marks.{fits_marks, marked_twice, marked_same, unmarked, log_marked}
use Rattle.layout.specs.Layout.{word_bytes, copy_words, log_words}
use Rattle.layout.proofs.Lent.{lent}
use Rattle.named.proofs.Runs.{on_at_after}
use Rattle.named.specs.Tables.{key_in, names_first, names_in, names_at}
use Rattle.collect.specs.Marked.{marks, named_first, LogIn, TableIn, TablesIn, sweeps}

or_swap : (a b : Bool) → (a or b) ≡ (b or a)
unfolding ◌or◌
or_swap true true = refl
or_swap true false = refl
or_swap false true = refl
or_swap false false = refl

eqb_swap : (a b : ℕ) → eqb a b ≡ eqb b a
eqb_swap a b = same_test _ _ (λ y. eq-eqb b a (sym (eqb-true a b y))) (λ y. eq-eqb a b (sym (eqb-true b a y)))

module _ (c : Settings) (at : ℕ) (ws : List ℕ) (len : ℕ) (h : at + log_words c ≤ length ws) (o : LogIn c at ws len) where
  abbrev log : List ℕ
  log = run at (log_words c) ws

  log_length : length log ≡ log_words c
  log_length = run_length at (log_words c) ws h

  pub keeps : (named : ℕ → Bool) → length (with_marks c.chunks (c.size / word_bytes) (λ x. named x.key) log) ≡ log_words c
  unfolding with_marks
  keeps named =
      length_write c.chunks (c.size / word_bytes) _ log log_length
      (fits_marks (λ x. named x.key) (fits_read c.chunks (c.size / word_bytes) log log_length o.log.few))

  -- the log keeps its shape
  pub marks_log : (named : ℕ → Bool) → LogIn c at (marks c at named ws) len
  unfolding marks
  marks_log named = record {
    small = o.small;
    inside = o.inside;
    log = rw (on_same at (log_words c) (with_marks c.chunks (c.size / word_bytes) (λ x. named x.key)) ws h (keeps named))
        (log_marked c.chunks (c.size / word_bytes) log (8 * log_words c) log_length o.log (omega arith) (λ x. named x.key));
  }

  -- a word beside the log
  pub marks_beside : (named : ℕ → Bool) (j : ℕ) → ((j < at) ⊎ (at + log_words c ≤ j)) → get_or (marks c at named ws) j 0 ≡ get_or ws j 0
  unfolding marks
  marks_beside named j (inl p) = on_at_before at (log_words c) _ ws j (omega arith) p
  marks_beside named j (inr p) = on_at_after at (log_words c) _ ws j h (keeps named) p

  pub marks_same : (f g : ℕ → Bool) → ((k : ℕ) → f k ≡ g k) → marks c at f ws ≡ marks c at g ws
  unfolding marks
  marks_same f g e =
      on_by at (log_words c) _ _ ws
      (marked_same c.chunks (c.size / word_bytes) log (8 * log_words c) log_length o.log (λ x. f x.key) (λ x. g x.key) (λ x. e x.key))

  -- marks of one test over those of another
  pub marks_twice : (f g : ℕ → Bool) → marks c at f (marks c at g ws) ≡ marks c at (λ k. g k or f k) ws
  marks_twice f g = two ∙ marks_same (λ k. f k or g k) (λ k. g k or f k) (λ k. or_swap (f k) (g k))
    where
      two : marks c at f (marks c at g ws) ≡ marks c at (λ k. f k or g k) ws
      two = unfold marks in (sym (on_twice at (log_words c) (with_marks c.chunks (c.size / word_bytes) (λ x. g x.key))
          (with_marks c.chunks (c.size / word_bytes) (λ x. f x.key)) ws h (keeps g))
          ∙ on_by at (log_words c) _ _ ws
          (marked_twice c.chunks (c.size / word_bytes) log (8 * log_words c) log_length o.log (λ x. f x.key) (λ x. g x.key) (λ x s. refl)))

  pub marks_none : (f : ℕ → Bool) → ((k : ℕ) → f k ≡ false) → ws ≡ marks c at f ws
  unfolding marks
  marks_none f e =
      sym (on_id at (log_words c) _ ws
      (unmarked c.chunks (c.size / word_bytes) log (8 * log_words c) log_length o.log (λ x. f x.key) (λ i p. e _)))

  -- ---- the loop over the rows of a table beside the log
  module _ (from : ℕ) (t : TableIn c at from ws len) where
    pub rows_start : ws ≡ marks c at (names_first ws from 0) ws
    rows_start = marks_none (names_first ws from 0) (λ k. unfold names_first any_below in refl)

    abbrev marked_to : ℕ → List ℕ
    marked_to i = marks c at (names_first ws from i) ws

    beside : (j : ℕ) → j < copy_words c → (from + j < at) ⊎ (at + log_words c ≤ from + j)
    beside j p = elim t.apart [ inl q ↦ inl (omega arith) | inr q ↦ inr (omega arith) ]

    pub row_key : (i : ℕ) → i < c.entries → key_in (marked_to i) from i ≡ key_in ws from i
    row_key i p = marks_beside (names_first ws from i) (from + (2 + i * 2)) (beside (2 + i * 2) (omega arith))

    pub rows_turn : (i : ℕ) (vs us : List ℕ) (key : ℕ) → i < c.entries → vs ≡ marked_to i → key ≡ key_in vs from i → us ≡ marks c at (eqb key) vs
        → us ≡ marked_to (i + 1)
    rows_turn i vs us key p e k u =
        let same : key ≡ key_in ws from i = k ∙ ap (λ (v : List ℕ). key_in v from i) e ∙ row_key i p in
        u ∙ ap (marks c at (eqb key)) e ∙ marks_twice (eqb key) (names_first ws from i)
        ∙ marks_same (λ k. names_first ws from i k or eqb key k) (names_first ws from (i + 1)) (λ k. turn i key k same)
      where
        turn : (i key k : ℕ) → key ≡ key_in ws from i → (names_first ws from i k or eqb key k) ≡ names_first ws from (i + 1) k
        turn i key k e = unfold names_first in rw (add-one i) (unfold any_below in (ap (λ b. names_first ws from i k or b) (eqb_swap key k ∙ ap (eqb k) e)))

-- ---- the loop over the tables of all buckets
pub some_same : (n : ℕ) (f g : ℕ → Bool) → ((k : ℕ) → k < n → f k ≡ g k) → any_below n f ≡ any_below n g
unfolding any_below
some_same zero f g e = refl
some_same (suc n) f g e = rw (some_same n f g (λ k p. e k (omega arith)), e n (omega arith))

module _ (c : Settings) (at : ℕ) (ws : List ℕ) (len : ℕ) (h : at + log_words c ≤ length ws) (o : LogIn c at ws len) where
  pub named_none : ws ≡ marks c at (names_at ws None) ws
  named_none = marks_none c at ws len h o (names_at ws None) (λ k. unfold names_at in refl)

  pub named_table : (from : ℕ) → marks c at (names_in ws from) ws ≡ marks c at (names_at ws (Some from)) ws
  named_table from = marks_same c at ws len h o (names_in ws from) (names_at ws (Some from)) (λ k. unfold names_at in refl)

  module _ (f : ℕ → Bool) (from : ℕ) (t : TableIn c at from ws len) where
    away : (j : ℕ) → j < copy_words c → get_or (marks c at f ws) (from + j) 0 ≡ get_or ws (from + j) 0
    away j p = marks_beside c at ws len h o f (from + j) (beside c at ws len h o from t j p)

    same_count : get_or (marks c at f ws) from 0 ≡ get_or ws from 0
    same_count =
        ap (λ (i : ℕ). get_or (marks c at f ws) i 0) (sym (add-zero from)) ∙ away 0 (omega arith) ∙ ap (λ (i : ℕ). get_or ws i 0) (add-zero from)

    pub table_marks : TableIn c at from (marks c at f ws) len
    table_marks = record { inside = t.inside; few = rw same_count t.few; apart = t.apart }

    names_marks : (k : ℕ) → names_in (marks c at f ws) from k ≡ names_in ws from k
    names_marks k =
        unfold names_first in rw same_count
        (some_same (get_or ws from 0) _ _ (λ i p. ap (eqb k) (away (2 + i * 2) (omega (arith, t.few)))))

  module _ (tables : List (Option ℕ)) (t : TablesIn c at tables ws len) where
    pub tables_start : ws ≡ marks c at (named_first ws tables 0) ws
    tables_start = marks_none c at ws len h o (named_first ws tables 0) (λ k. unfold named_first any_below in refl)

    pub table_still : (n g : ℕ) → g < buckets c → (from : ℕ) → get_or tables g None ≡ Some from
        → TableIn c at from (marks c at (named_first ws tables n) ws) len
    table_still n g p from e = table_marks (named_first ws tables n) from (t.each g p from e)

    names_still : (n g k : ℕ) → g < buckets c → (from : Option ℕ) → get_or tables g None ≡ from
        → names_at (marks c at (named_first ws tables n) ws) from k ≡ names_at ws from k
    unfolding names_at
    names_still n g k p (Some from) e = names_marks (named_first ws tables n) from (t.each g p from e) k
    names_still n g k p None e = refl

    pub tables_turn : (n : ℕ) (vs us : List ℕ) → n < buckets c → vs ≡ marks c at (named_first ws tables n) ws
        → us ≡ marks c at (names_at vs (get_or tables n None)) vs → us ≡ marks c at (named_first ws tables (n + 1)) ws
    tables_turn n vs us p e u =
        u ∙ ap (λ (v : List ℕ). marks c at (names_at v (get_or tables n None)) v) e
        ∙ marks_twice c at ws len h o (names_at (marks c at (named_first ws tables n) ws) (get_or tables n None)) (named_first ws tables n)
        ∙ marks_same c at ws len h o _ (named_first ws tables (n + 1)) (λ k. turn k)
      where
        turn : (k : ℕ) → (named_first ws tables n k or names_at (marks c at (named_first ws tables n) ws) (get_or tables n None) k) ≡ named_first ws tables (n + 1) k
        turn k = rw (add-one n, names_still n n k p (get_or tables n None) refl) (unfold named_first any_below in refl)

-- ---- the log lent
module _ (c : Settings) (at : ℕ) (s : List ℕ) (i : LogIn c at (words s) (length s)) (o e : ℕ) (eo : o ≡ 8 * at) (ee : e ≡ o + 8 * log_words c) where
  pub lent_log : LogWith 3 c.chunks (c.size / word_bytes) (words (take (e - o) (drop o s))) (length (take (e - o) (drop o s)))
  lent_log =
      let inside = i.inside in
      let room : e - o ≤ length (drop o s) = rw length-drop (omega arith) in
      let size : length (take (e - o) (drop o s)) ≡ 8 * log_words c = length-take-le (e - o) (drop o s) room ∙ omega arith in
      rw (lent s o e at (log_words c) eo ee inside, size) i.log

  pub lent_marks : (t : List ℕ) (named : ℕ → Bool) → length t ≡ e - o
      → words t ≡ with_marks c.chunks (c.size / word_bytes) (λ x. named x.key) (words (take (e - o) (drop o s)))
      → words (take o s ++ (t ++ drop (e - o) (drop o s))) ≡ marks c at named (words s)
  unfolding marks
  lent_marks t named lt et =
      let inside = i.inside in
      lent_run s t o (e - o) at (log_words c) (with_marks c.chunks (c.size / word_bytes) (λ x. named x.key)) eo (omega arith) (omega arith) (omega arith) et

  pub lent_sweeps : (t : List ℕ) → length t ≡ e - o → words t ≡ swept c.chunks (c.size / word_bytes) (words (take (e - o) (drop o s)))
      → words (take o s ++ (t ++ drop (e - o) (drop o s))) ≡ sweeps c at (words s)
  unfolding sweeps
  lent_sweeps t lt et =
      let inside = i.inside in
      lent_run s t o (e - o) at (log_words c) (swept c.chunks (c.size / word_bytes)) eo (omega arith) (omega arith) (omega arith) et
