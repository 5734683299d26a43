-- A slice of equal parts: one of them lent, and what came back put in its place; and all of them written or changed.
use mathlib.Core.Path.{◌≡◌, refl, sym, ap, ◌∙◌}
use mathlib.Core.List.{List, ◌++◌}
use Prim.Native.Nat.{ℕ, zero, suc, ◌+◌, ◌*◌, ◌≤◌, ◌<◌}
use native.Mathlib.Omega.{arith}
use native.Mathlib.Nat.{suc-mul, zero-mul}
use lib.ListN.{length, take, drop, length-drop, take-append-drop}
use lib.Seq.{take-length, length-take-le}
use Rattle.std.specs.Borrow.{MutBor}
use Rattle.lists.specs.Runs.{on_run, nth_run}
use Rattle.lists.proofs.Runs.{fits_in, run_length, run_front, run_all, on_same, on_before, on_after}
use Rattle.lists.proofs.Tests.{by_lt}
use Rattle.words.specs.Words.{words}
use Rattle.words.proofs.Laws.{length_words, words_part}
use Rattle.codec.specs.Codec.{Codec, change, enc_many, many}
use Rattle.codec.proofs.Laws.{many_none, many_last}
use Rattle.codec.proofs.Focus.{many_read}
use Rattle.layout.specs.Each.{part_of}

pub part_is : (size i : ℕ) (s : List ℕ) (o k : ℕ) → o ≡ 8 * (i * size) → k ≡ 8 * size → take k (drop o s) ≡ part_of size i s
part_is size i s o k eo ek = rw (eo, ek)

pub part_length : (size count i : ℕ) (s : List ℕ) → length s ≡ 8 * (count * size) → i < count → length (part_of size i s) ≡ 8 * size
part_length size count i s h p = run_length (8 * (i * size)) (8 * size) s (omega (arith, fits_in size p))

module _ (size count i : ℕ) (p : i < count) (s t : List ℕ) (h : length s ≡ 8 * (count * size)) (o k : ℕ) (eo : o ≡ 8 * (i * size)) (ek : k ≡ 8 * size) (lt : length t ≡ k) where
  inside : o + k ≤ length s
  inside = omega (arith, fits_in size p)

  put_is : take o s ++ (t ++ drop k (drop o s)) ≡ on_run o k (λ _. t) s
  unfolding on_run
  put_is = refl

  pub part_here : part_of size i (take o s ++ (t ++ drop k (drop o s))) ≡ t
  part_here = rw (← eo, ← ek, put_is) (on_same o k (λ _. t) s inside lt)

  pub part_apart : (j : ℕ) → (j ≡ i → ⊥) → part_of size j (take o s ++ (t ++ drop k (drop o s))) ≡ part_of size j s
  part_apart j n =
      by_lt j i
      (λ _ b. rw put_is (on_before o k (λ _. t) (8 * (j * size)) (8 * size) s inside (omega (arith, fits_in size b))))
      (λ _ b. let a : i < j = omega arith in
      rw put_is (on_after o k (λ _. t) (8 * (j * size)) (8 * size) s inside lt (omega (arith, fits_in size a))))

-- ---- every part made a value of a code: all of them are what its code of so many values writes
many_of_parts : {A : Type 0} (c : Codec A) (n : ℕ) (f : ℕ → A) (w v : List ℕ) → length w ≡ n * c.size → length v ≡ n * c.size
    → ((i : ℕ) → i < n → nth_run c.size i v ≡ c.enc (f i) (nth_run c.size i w)) → v ≡ enc_many c n f w
many_of_parts c zero f w v hw hv e =
    let none : length v ≡ 0 = rw zero-mul at hv in
    sym (take-length v) ∙ rw none (sym (many_none c f w))
many_of_parts c (suc n) f w v hw hv e =
    let k : ℕ = n * c.size in
    let up : suc n * c.size ≡ k + c.size = suc-mul n c.size in
    let front : take k v ≡ enc_many c n f (take k w) =
    many_of_parts c n f (take k w) (take k v) (length-take-le k w (omega arith)) (length-take-le k v (omega arith))
    (λ i p. run_front (i * c.size) c.size k v (omega arith) (fits_in c.size p) ∙ e i (omega arith)
    ∙ ap (c.enc (f i)) (sym (run_front (i * c.size) c.size k w (omega arith) (fits_in c.size p)))) in
    let last : drop k v ≡ c.enc (f n) (drop k w) =
    sym (run_all c.size (drop k v) (length-drop k v ∙ omega arith)) ∙ e n (omega arith)
    ∙ ap (c.enc (f n)) (run_all c.size (drop k w) (length-drop k w ∙ omega arith)) in
    sym (take-append-drop k v) ∙ rw (front, last) (sym (many_last c n f w))

module _ {A : Type 0} (c : Codec A) (n : ℕ) (s t : List ℕ) (h : length s ≡ 8 * (n * c.size)) (l : length t ≡ length s) where
  pub part_words : (u : List ℕ) → length u ≡ length s → (i : ℕ) → i < n → words (part_of c.size i u) ≡ nth_run c.size i (words u)
  part_words u e i p =
      words_part u (8 * (i * c.size)) (8 * c.size) (i * c.size) c.size refl refl (omega (arith, fits_in c.size p))

  written : (f : ℕ → A) → ((i : ℕ) → i < n → words (part_of c.size i t) ≡ c.enc (f i) (words (part_of c.size i s))) → words t ≡ enc_many c n f (words s)
  written f e =
      many_of_parts c n f (words s) (words t) (length_words s ∙ omega arith) (length_words t ∙ omega arith)
      (λ i p. sym (part_words t l i p) ∙ e i p ∙ ap (c.enc (f i)) (part_words s refl i p))

  -- what each_part ensures, and what the step then says of part i before it and after
  module _ (size count : ℕ) (es : size ≡ c.size) (en : count ≡ n) (Made : ℕ → MutBor (List ℕ) → MutBor (List ℕ) → Type 0) (made : (i : ℕ) → i < count
      → (x : MutBor (List ℕ)) × ((y : MutBor (List ℕ)) × ((x.now ≡ part_of size i s) × (y.now ≡ part_of size i t) × Made i x y))) where
    before : (i : ℕ) (p : i < n) → words (made i (rw en p)).0.now ≡ words (part_of c.size i s)
    before i p = ap words ((made i (rw en p)).1.1.0 ∙ ap (λ (k : ℕ). part_of k i s) es)

    after : (i : ℕ) (p : i < n) → words (part_of c.size i t) ≡ words (made i (rw en p)).1.0.now
    after i p = ap words (sym ((made i (rw en p)).1.1.1 ∙ ap (λ (k : ℕ). part_of k i t) es))

    pub all_written : (f : ℕ → A) → ((i : ℕ) (x y : MutBor (List ℕ)) → i < n → Made i x y → words y.now ≡ c.enc (f i) (words x.now))
        → words t ≡ enc_many c n f (words s)
    all_written f e =
        written f (λ i p. let m = made i (rw en p) in
        after i p ∙ e i m.0 m.1.0 p m.1.1.2 ∙ ap (c.enc (f i)) (before i p))

    pub all_changed : (blank : A) (g : ℕ → A → A) → ((i : ℕ) (x y : MutBor (List ℕ)) → i < n → Made i x y → words y.now ≡ change c (g i) (words x.now))
        → words t ≡ change (many n blank c) (λ old i. g i (old i)) (words s)
    all_changed blank g e =
        written (λ i. g i ((many n blank c).dec (words s) i)) (λ i p. let m = made i (rw en p) in
        after i p ∙ e i m.0 m.1.0 p m.1.1.2 ∙ ap (change c (g i)) (before i p)
        ∙ ap (λ (a : A). c.enc (g i a) (words (part_of c.size i s))) (ap c.dec (part_words s refl i p) ∙ sym (many_read c n blank i (words s) p)))
