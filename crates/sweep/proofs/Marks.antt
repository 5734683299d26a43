-- Marks on a log's chunks: put on, put on again, and swept away with the chunks that have none.
use mathlib.Core.Path.{◌≡◌, refl, sym, ap, ◌∙◌}
use mathlib.Core.Logic.{◌≢◌}
use mathlib.Core.Bool.{Bool, false}
use mathlib.Core.List.{List, [], ◌∷◌, map}
use Prim.Native.Nat.{ℕ, zero, suc, ◌+◌, ◌*◌, ◌/◌, ◌%◌, ◌≤◌, ◌<◌, suc-le-suc}
use native.Mathlib.Nat.{le_refl, not-suc-le-zero, le_of_suc-le-suc}
use native.Mathlib.Omega.{arith}
use lib.Dec.{eqb}
use lib.ListN.{length, get_or, set, length-map}
use borrow.Author.Tests.{eq-eqb, ne_eqb}
use Rattle.lists.specs.Tests.{◌or◌, only}
use Rattle.lists.specs.Runs.{Sized, none, more, Below}
use Rattle.lists.proofs.Tests.{by, by_eq, impossible, length_only}
use Rattle.lists.proofs.Lists.{same_cons, get_or_map_in, map_only}
use Rattle.words.specs.Words.{words}
use Rattle.rules.specs.Chunks.{Chunk, only_saved, only_named, held}
use Rattle.chunk_log.specs.Log.{Stored, stored, cell_of, stored_at, key_at, saved_of, write_log, read_log, row_saved, LogWith, IsLog, Fits, log_size, log_dec}
use Rattle.chunk_log.specs.Log.{log_enc, from_chunk, chunk_at}
use Rattle.chunk_log.specs.Steps.{with_saved, put_saved, tag}
use Rattle.chunk_log.specs.Answers.{FoundAt}
use Rattle.chunk_log.proofs.Chunks.{length_read, read_saved, fits_read, log_write, write_read, read_write, write_write, distinct_read}
use Rattle.chunk_log.proofs.Changes.{set_saved}
use Rattle.chunk_log.proofs.Codec.{dec_length}
use Rattle.chunk_log.proofs.Rules.{held_at}
use Rattle.chunk_log.proofs.Steps.{sizes, same, count_is, dec_at, found_row, chunks_back, as_chunks}
use Rattle.sweep.specs.Sweep.{stays, plain, kept_chunks, triple_of}
use Rattle.sweep.specs.Marks.{mark, with_marks, swept}
use Rattle.sweep.proofs.Tags.{tag_map}

-- ---- one chunk
module _ (test : Stored → Bool) (x : Stored) where
  mark_plain : x.saved ≤ 1 → plain (mark test x) ≡ x
  mark_plain l =
      let e : (x.saved % 2 + 2) % 2 ≡ x.saved = omega arith in
      let f : x.saved % 2 ≡ x.saved = omega arith in
      by (test x) (λ q. rw (q, e)) (λ q. rw (q, f))

  mark_stays : x.saved ≤ 1 → stays (mark test x).saved ≡ test x
  mark_stays l =
      by (test x) (λ q. rw q (eq-eqb ((x.saved % 2 + 2) % 4 / 2) 1 (omega arith)))
      (λ q. let e : x.saved % 4 / 2 ≡ 0 = omega arith in rw (q, e))

  mark_low : x.saved ≤ 3 → (mark test x).saved ≤ 3
  mark_low l = by (test x) (λ q. rw q (omega arith)) (λ q. rw q l)

  mark_key : (mark test x).key ≡ x.key
  mark_key = by (test x) (λ q. rw q) (λ q. rw q)

  mark_cell : (mark test x).cell ≡ x.cell
  mark_cell = by (test x) (λ q. rw q) (λ q. rw q)

mark_twice : (a b : Stored → Bool) → ((x : Stored) (s : ℕ) → a (with_saved s x) ≡ a x) → (x : Stored) → mark a (mark b x) ≡ mark (λ y. a y or b y) x
unfolding ◌or◌
mark_twice a b blind x =
    let e : (x.saved % 2 + 2) % 2 + 2 ≡ x.saved % 2 + 2 = omega arith in
    by (b x)
    (λ q. rw (q, blind x (x.saved % 2 + 2)) (by (a x) (λ r. rw (r, e)) (λ r. rw r)))
    (λ q. rw q (by (a x) (λ r. rw r) (λ r. rw r)))

-- ---- a list of chunks
abbrev Low : ℕ → List Stored → Type 0
Low top xs = (i : ℕ) → i < length xs → saved_of xs i ≤ top

marks_plain : (test : Stored → Bool) (xs : List Stored) → Low 1 xs → map plain (map (mark test) xs) ≡ xs
marks_plain test [] l = refl
marks_plain test (x ∷ xs) l = same_cons (mark_plain test x (l 0 (omega arith))) (marks_plain test xs (λ i h. l (suc i) (suc-le-suc h)))

marks_kept : (test : Stored → Bool) (xs : List Stored) → Low 1 xs → kept_chunks (map (mark test) xs) ≡ only test xs
unfolding kept_chunks only
marks_kept test [] l = refl
marks_kept test (x ∷ xs) l =
    rw (mark_stays test x (l 0 (omega arith)), mark_plain test x (l 0 (omega arith)), marks_kept test xs (λ i h. l (suc i) (suc-le-suc h)))

marks_twice : (a b : Stored → Bool) → ((x : Stored) (s : ℕ) → a (with_saved s x) ≡ a x) → (xs : List Stored)
    → map (mark a) (map (mark b) xs) ≡ map (mark (λ y. a y or b y)) xs
marks_twice a b blind [] = refl
marks_twice a b blind (x ∷ xs) = rw (marks_twice a b blind xs) (ap (λ (y : Stored). y ∷ map (mark (λ y. a y or b y)) xs) (mark_twice a b blind x))

sized_marks : {w : ℕ} (test : Stored → Bool) {xs : List Stored} → Sized cell_of w xs → Sized cell_of w (map (mark test) xs)
sized_marks test none = none
sized_marks test (more {x} e s) = more {x = mark test x} (rw (mark_cell test x) e) (sized_marks test s)

pub fits_marks : {L w : ℕ} (test : Stored → Bool) {xs : List Stored} → Fits L w xs → Fits L w (map (mark test) xs)
fits_marks test f = record { few = rw length-map f.few; sized = sized_marks test f.sized }

-- ---- a log's words
marked_is : (L w : ℕ) (test : Stored → Bool) (v : List ℕ) → with_marks L w test v ≡ write_log L (map (mark test) (read_log L w v)) v
unfolding with_marks
marked_is L w test v = refl

module _ {top : ℕ} (L w : ℕ) (ws : List ℕ) (len : ℕ) (hl : length ws ≡ log_size L w) (o : LogWith top L w ws len) where
  read_fits : Fits L w (read_log L w ws)
  read_fits = fits_read L w ws hl o.few

  pub read_low : Low top (read_log L w ws)
  read_low i h =
      let q : i < get_or ws 0 0 = rw (length_read L w ws hl o.few) at h in
      rw (read_saved L w ws hl o.few i q) (o.flags i q)

  pub read_marked : (test : Stored → Bool) → read_log L w (with_marks L w test ws) ≡ map (mark test) (read_log L w ws)
  unfolding with_marks
  read_marked test = read_write L w (map (mark test) (read_log L w ws)) ws hl (fits_marks test read_fits)

  -- marks of one test over marks of another
  pub marked_twice : (a b : Stored → Bool) → ((x : Stored) (s : ℕ) → a (with_saved s x) ≡ a x)
      → with_marks L w a (with_marks L w b ws) ≡ with_marks L w (λ y. a y or b y) ws
  marked_twice a b blind =
      let xs = read_log L w ws in
      let m = map (mark b) xs in
      marked_is L w a (with_marks L w b ws)
      ∙ rw (read_marked b) (ap (write_log L (map (mark a) m)) (marked_is L w b ws)
      ∙ write_write L w (map (mark a) m) m ws hl (fits_marks a (fits_marks b read_fits)) (fits_marks b read_fits)
      (rw (length-map m (mark a)) (le_refl (length m)))
      ∙ ap (λ (l : List Stored). write_log L l ws) (marks_twice a b blind xs) ∙ sym (marked_is L w (λ y. a y or b y) ws))

  -- tests that agree leave the same marks
  pub marked_same : (a b : Stored → Bool) → ((x : Stored) → a x ≡ b x) → with_marks L w a ws ≡ with_marks L w b ws
  marked_same a b e =
      marked_is L w a ws ∙ ap (λ (l : List Stored). write_log L l ws) (each (read_log L w ws)) ∙ sym (marked_is L w b ws)
    where
      each : (xs : List Stored) → map (mark a) xs ≡ map (mark b) xs
      each [] = refl
      each (x ∷ xs) = rw (e x, each xs)

  -- where the test picks no chunk, nothing changes
  pub unmarked : (test : Stored → Bool) → ((i : ℕ) → i < length (read_log L w ws) → test (stored_at (read_log L w ws) i) ≡ false) → with_marks L w test ws ≡ ws
  unmarked test f =
      marked_is L w test ws ∙ ap (λ (l : List Stored). write_log L l ws) (each (read_log L w ws) f) ∙ write_read L w ws hl o.few o.order
    where
      each : (xs : List Stored) → ((i : ℕ) → i < length xs → test (stored_at xs i) ≡ false) → map (mark test) xs ≡ xs
      each [] f = refl
      each (x ∷ xs) f = rw (f 0 (omega arith), each xs (λ i h. f (suc i) (suc-le-suc h)))

  pub log_marked : top ≤ 3 → (test : Stored → Bool) → LogWith 3 L w (with_marks L w test ws) len
  log_marked t test =
      let xs = read_log L w ws in
      let n : length (map (mark test) xs) ≡ length xs = length-map xs (mark test) in
      rw (marked_is L w test ws)
      (log_write L w (map (mark test) xs) ws hl (fits_marks test read_fits)
      (λ i h. let q : i < length xs = rw n at h in let z = read_low i q in rw (at i q) (mark_low test (stored_at xs i) (omega arith)))
      (λ i j p h e. let q : j < length xs = rw n at h in distinct_read L w ws hl o.few o.order i j p q (sym (key i (omega arith)) ∙ e ∙ key j q)) len
      o.size)
    where
      at : (i : ℕ) → i < length (read_log L w ws) → stored_at (map (mark test) (read_log L w ws)) i ≡ mark test (stored_at (read_log L w ws) i)
      at i h = get_or_map_in (mark test) (read_log L w ws) i (stored 0 0 []) (stored 0 0 []) h

      key : (i : ℕ) → i < length (read_log L w ws) → key_at (map (mark test) (read_log L w ws)) i ≡ key_at (read_log L w ws) i
      key i h = ap (λ (x : Stored). x.key) (at i h) ∙ mark_key test (stored_at (read_log L w ws) i)

-- ---- what a sweep leaves of a log with marks
module _ (L w : ℕ) (ws : List ℕ) (len : ℕ) (hl : length ws ≡ log_size L w) (o : IsLog L w ws len) where
  pub swept_marked : (test : Stored → Bool) → swept L w (with_marks L w test ws) ≡ write_log L (only test (read_log L w ws)) ws
  unfolding swept
  swept_marked test =
      let xs = read_log L w ws in
      let m = map (mark test) xs in
      let low = read_low L w ws len hl o in
      let fit = read_fits L w ws len hl o in
      rw (read_marked L w ws len hl o test, marks_plain test xs low, marks_kept test xs low)
      (ap (write_log L (only test xs)) (ap (write_log L xs) (marked_is L w test ws)
      ∙ write_write L w xs m ws hl fit (fits_marks test fit) (rw (length-map xs (mark test)) (le_refl (length xs)))
      ∙ write_read L w ws hl o.few o.order))

-- ---- a mark on the chunk with a key
abbrev has_key : ℕ → Stored → Bool
has_key k x = eqb k x.key

none_marked : (k : ℕ) (xs : List Stored) → ((i : ℕ) → i < length xs → key_at xs i ≢ k) → map (mark (has_key k)) xs ≡ xs
none_marked k [] f = refl
none_marked k (x ∷ xs) f =
    rw (ne_eqb k x.key (λ e. f 0 (omega arith) (sym e)), none_marked k xs (λ i h. f (suc i) (suc-le-suc h)))

put_mark : (k : ℕ) (xs : List Stored) (p : ℕ) → p < length xs → key_at xs p ≡ k → ((i j : ℕ) → i < j → j < length xs → key_at xs i ≢ key_at xs j)
    → put_saved p (saved_of xs p % 2 + 2) xs ≡ map (mark (has_key k)) xs
unfolding put_saved
put_mark k [] p h e d = absurd (not-suc-le-zero h)
put_mark k (x ∷ xs) zero h e d =
    rw (eq-eqb k x.key (sym e), none_marked k xs (λ i q f. d 0 (suc i) (omega arith) (suc-le-suc q) (e ∙ sym f)))
put_mark k (x ∷ xs) (suc p) h e d =
    rw (ne_eqb k x.key (λ f. d 0 (suc p) (omega arith) h (sym f ∙ sym e)))
    (ap (λ (l : List Stored). x ∷ l) (put_mark k xs p (le_of_suc-le-suc h) e (λ i j a b. d (suc i) (suc j) (suc-le-suc a) (suc-le-suc b))))

module _ (L w : ℕ) (s : List ℕ) (o : LogWith 3 L w (words s) (length s)) (k : ℕ) where
  key_is : (i : ℕ) → i < length (read_log L w (words s)) → (chunk_at (log_dec L w (words s)) i).key ≡ key_at (read_log L w (words s)) i
  key_is i h = ap (λ (c : Chunk). c.key) (dec_at L w s o i h)

  pub mark_leaves : (p v q : ℕ) → FoundAt (log_dec L w (words s)) k p → v ≡ row_saved (words s) p → q ≡ 2 + 2 * p
      → set (words s) q (v % 2 + 2) ≡ with_marks L w (has_key k) (words s)
  mark_leaves p v q f ev eq =
      let hl = sizes L w s o in
      let xs = read_log L w (words s) in
      let r : p < get_or (words s) 0 0 = found_row L w s o k p f in
      let h : p < length xs = rw (count_is L w s o) r in
      let e : v ≡ saved_of xs p = ev ∙ sym (read_saved L w (words s) hl o.few p r) in
      rw (e, marked_is L w (has_key k) (words s), ← put_mark k xs p h (sym (key_is p h) ∙ f.same) (distinct_read L w (words s) hl o.few o.order))
      (rw (same L w s o) at (set_saved L w xs (words s) hl (fits_read L w (words s) hl o.few) p (saved_of xs p % 2 + 2) q h eq))

  pub mark_none : held (log_dec L w (words s)) k ≡ false → words s ≡ with_marks L w (has_key k) (words s)
  mark_none n =
      sym (marked_is L w (has_key k) (words s) ∙ ap (λ (l : List Stored). write_log L l (words s))
      (none_marked k (read_log L w (words s)) (λ i h e. impossible (sym n ∙ held_at (log_dec L w (words s)) k i
      (rw (dec_length L w (words s) (sizes L w s o), ← count_is L w s o) h) (key_is i h ∙ e))))
      ∙ same L w s o)

-- ---- marks on the saved chunks: three times the saved word
triples : (xs : List Stored) → Low 1 xs → map (λ x. with_saved (3 * x.saved) x) xs ≡ map (mark (λ x. eqb x.saved 1)) xs
triples [] l = refl
triples (x ∷ xs) l =
    let f = l 0 (omega arith) in
    rw (triples xs (λ i h. l (suc i) (suc-le-suc h)))
    (by_eq x.saved 1 (λ q e. rw (q, e)) (λ q e. let z : x.saved ≡ 0 = omega arith in rw (q, z)))

pub triple_leaves : (L w : ℕ) (s : List ℕ) (o : IsLog L w (words s) (length s)) (n : ℕ) → n ≡ get_or (words s) 0 0
    → write_log L (tag (triple_of (read_log L w (words s))) n (read_log L w (words s))) (words s) ≡ with_marks L w (λ x. eqb x.saved 1) (words s)
triple_leaves L w s o n e =
    let xs = read_log L w (words s) in
    rw (e, ← count_is L w s o, tag_map (λ x. 3 * x.saved) xs, triples xs (read_low L w (words s) (length s) (sizes L w s o) o))
    (sym (marked_is L w (λ x. eqb x.saved 1) (words s)))

-- ---- as the rules' chunks
module _ (L w : ℕ) (s : List ℕ) (o : IsLog L w (words s) (length s)) (b : Below 256 s) where
  only_leaves : (p : Chunk → Bool) (test : Stored → Bool) → ((c : Chunk) → test (from_chunk w c) ≡ p c)
      → swept L w (with_marks L w test (words s)) ≡ log_enc L w (only p (log_dec L w (words s))) (words s)
  only_leaves p test e =
      let cs = log_dec L w (words s) in
      swept_marked L w (words s) (length s) (sizes L w s o) o test
      ∙ as_chunks L w s o b (only test (read_log L w (words s))) (only p cs)
      (let z = length_only p cs in let f = o.few in let l = dec_length L w (words s) (sizes L w s o) in omega arith)
      (map_only (from_chunk w) p test e cs ∙ ap (only test) (chunks_back L w s o b))

  pub keep_saved_leaves : swept L w (with_marks L w (λ x. eqb x.saved 1) (words s)) ≡ log_enc L w (only_saved (log_dec L w (words s))) (words s)
  unfolding only_saved
  keep_saved_leaves = only_leaves (λ c. c.saved) (λ x. eqb x.saved 1) (λ c. by c.saved (λ q. rw q) (λ q. rw q))

  -- marks on the chunks that a test of the key names, and a sweep
  pub keep_named_leaves : (named : ℕ → Bool)
      → swept L w (with_marks L w (λ x. named x.key) (words s)) ≡ log_enc L w (only_named named (log_dec L w (words s))) (words s)
  unfolding only_named
  keep_named_leaves named = only_leaves (λ c. named c.key) (λ x. named x.key) (λ c. refl)
