-- One value inside another: where it lies, and what a change of it alone does to the words.
use mathlib.Core.Path.{◌≡◌, refl, sym, ap, ◌∙◌}
use mathlib.Core.List.{List, [], ◌∷◌, ◌++◌, append-nil}
use Prim.Native.Nat.{ℕ, zero, suc, ◌+◌, ◌*◌, ◌≤◌, ◌<◌}
use native.Mathlib.Nat.{suc-mul, add-zero, not-suc-le-zero}
use native.Mathlib.Omega.{arith}
use borrow.Author.Tests.{lt-ltb, ne_eqb}
use lib.ListN.{length, take, drop, get_or, set}
use lib.Seq.{get_or-take, get_or-drop, drop-length}
use Rattle.lists.specs.Runs.{run, on_run, nth_run}
use Rattle.lists.proofs.Tests.{by_eq}
use Rattle.lists.proofs.Runs.{fits_in, run_length, run_of_run, run_front, run_all, on_left, on_right, on_same, on_within, set_is}
use Rattle.codec.specs.Codec.{Codec, Clean, change, Two, word, Reading, via, enc_two, ◌then◌, enc_many, many, enc_if_present, if_present}
use Rattle.codec.proofs.Laws.{Lawful, via_law, then_law, many_law, if_present_law, two_is, two_left, two_right}
use Rattle.codec.proofs.Laws.{many_last, many_left, many_right, many_keeps, rest_length}

-- `Else a b`: a and b agree but for the part
pub record Focus {A B : Type 0} (c : Codec A) (d : Codec B) : Type 1 where
  pub off : ℕ
  pub see : A → B
  pub Else : A → A → Type 0
  pub outer : Lawful c
  pub inner : Lawful d
  pub same : (a b : A) → Else a b → Else a a
  pub inside : off + d.size ≤ c.size
  pub read : (w : List ℕ) → length w ≡ c.size → Else (c.dec w) (c.dec w) → see (c.dec w) ≡ d.dec (run off d.size w)
  pub write : (a b : A) (w : List ℕ) → length w ≡ c.size → Else a b
      → c.enc b w ≡ on_run off d.size (λ _. d.enc (see b) (run off d.size w)) (c.enc a w)

module _ {A B : Type 0} {c : Codec A} {d : Codec B} (f : Focus c d) where
  pub part_length : (w : List ℕ) → length w ≡ c.size → length (run f.off d.size w) ≡ d.size
  part_length w h = run_length f.off d.size w (omega (arith, f.inside))

  -- the words of the part are the part's
  pub part_of : (a : A) (w : List ℕ) → length w ≡ c.size → f.Else a a
      → run f.off d.size (c.enc a w) ≡ d.enc (f.see a) (run f.off d.size w)
  part_of a w h e =
      let i = f.inside in
      let l = f.outer.keeps a w h in
      let v : List ℕ = run f.off d.size w in
      ap (run f.off d.size) (f.write a a w h e)
      ∙ on_same f.off d.size (λ _. d.enc (f.see a) v) (c.enc a w) (omega arith) (f.inner.keeps (f.see a) v (part_length w h))

  -- the words of a part of clean words are clean
  pub clean_part : (w : List ℕ) → length w ≡ c.size → f.Else (c.dec w) (c.dec w) → Clean c w → Clean d (run f.off d.size w)
  clean_part w h e k =
      ap (λ b. d.enc b (run f.off d.size w)) (sym (f.read w h e)) ∙ sym (part_of (c.dec w) w h e) ∙ ap (run f.off d.size) k

-- what a change makes of a run it makes of that run alone
pub on_const : (a n : ℕ) (f : List ℕ → List ℕ) (w : List ℕ) → on_run a n (λ _. f (run a n w)) w ≡ on_run a n f w
unfolding on_run
on_const a n f w = refl

-- clean words with one part of their value changed: the words of that part change
module _ {A B : Type 0} {c : Codec A} {d : Codec B} (f : Focus c d) (g : A → A) (w : List ℕ) (h : length w ≡ c.size) (k : Clean c w)
    (e : f.Else (c.dec w) (g (c.dec w))) where
  pub part_changed : change c g w ≡ on_run f.off d.size (d.enc (f.see (g (c.dec w)))) w
  part_changed =
      let new : List ℕ → List ℕ = d.enc (f.see (g (c.dec w))) in
      f.write (c.dec w) (g (c.dec w)) w h e ∙ ap (on_run f.off d.size (λ _. new (run f.off d.size w))) k
      ∙ on_const f.off d.size new w

-- ---- a part of a part
module _ {A B C : Type 0} {c : Codec A} {d : Codec B} {e : Codec C} (f : Focus c d) (g : Focus d e) where
  pub through_read : (w : List ℕ) → length w ≡ c.size → f.Else (c.dec w) (c.dec w) → g.Else (f.see (c.dec w)) (f.see (c.dec w))
      → g.see (f.see (c.dec w)) ≡ e.dec (run (f.off + g.off) e.size w)
  through_read w h s t =
      let i = f.inside in
      let r = f.read w h s in
      ap g.see r ∙ g.read (run f.off d.size w) (part_length f w h) (rw r at t)
      ∙ ap e.dec (run_of_run f.off d.size g.off e.size w (omega arith) g.inside)

  pub through_write : (a b : A) (w : List ℕ) → length w ≡ c.size → f.Else a b → g.Else (f.see a) (f.see b)
      → c.enc b w ≡ on_run (f.off + g.off) e.size (λ _. e.enc (g.see (f.see b)) (run (f.off + g.off) e.size w)) (c.enc a w)
  through_write a b w h s t =
      let i = f.inside in
      let j = g.inside in
      let k = f.outer.keeps a w h in
      let v : List ℕ = run f.off d.size w in
      let new : List ℕ → List ℕ = λ _. e.enc (g.see (f.see b)) (run g.off e.size v) in
      f.write a b w h s
      ∙ ap (λ (x : List ℕ). on_run f.off d.size (λ _. x) (c.enc a w))
      (g.write (f.see a) (f.see b) v (part_length f w h) t
      ∙ ap (on_run g.off e.size new) (sym (part_of f a w h (f.same a b s))))
      ∙ on_const f.off d.size (on_run g.off e.size new) (c.enc a w)
      ∙ on_within f.off d.size g.off e.size new (c.enc a w) (omega arith) j
      ∙ ap (λ (x : List ℕ). on_run (f.off + g.off) e.size (λ _. e.enc (g.see (f.see b)) x) (c.enc a w))
      (run_of_run f.off d.size g.off e.size w (omega arith) j)

  pub through_inside : f.off + g.off + e.size ≤ c.size
  through_inside = let i = f.inside in let j = g.inside in omega arith

infixl 30 ◌through◌
abbrev pub ◌through◌ : {A B C : Type 0} {c : Codec A} {d : Codec B} {e : Codec C} → Focus c d → Focus d e → Focus c e
◌through◌ f g = record {
  off = f.off + g.off;
  see = λ a. g.see (f.see a);
  Else = λ a b. f.Else a b × g.Else (f.see a) (f.see b);
  outer = f.outer;
  inner = g.inner;
  same = λ a b h. (f.same a b h.0, g.same (f.see a) (f.see b) h.1);
  inside = through_inside f g;
  read = λ w h s. through_read f g w h s.0 s.1;
  write = λ a b w h s. through_write f g a b w h s.0 s.1;
}

-- the same words read as another type
abbrev pub seen_as : {A B C : Type 0} (r : Reading A B) {c : Codec A} {d : Codec C} → ((a : A) → r.from (r.to a) ≡ a) → Focus c d → Focus (via r c) d
seen_as r {c = c} {d = d} e f = record {
  off = f.off;
  see = λ b. f.see (r.from b);
  Else = λ a b. f.Else (r.from a) (r.from b);
  outer = via_law r f.outer;
  inner = f.inner;
  same = λ a b. f.same (r.from a) (r.from b);
  inside = f.inside;
  read = λ w h s. ap f.see (e (c.dec w)) ∙ f.read w h (rw (e (c.dec w)) at s);
  write = λ a b. f.write (r.from a) (r.from b);
}

-- the same part, its offset by another name
abbrev pub at_offset : {A B : Type 0} {c : Codec A} {d : Codec B} (k : ℕ) (f : Focus c d) → f.off ≡ k → Focus c d
at_offset {c = c} {d = d} k f e = record {
  off = k;
  see = f.see;
  Else = f.Else;
  outer = f.outer;
  inner = f.inner;
  same = f.same;
  inside = rw e at f.inside;
  read = λ w h s. f.read w h s ∙ ap (λ (o : ℕ). d.dec (run o d.size w)) e;
  write = λ a b w h s. f.write a b w h s ∙ ap (λ (o : ℕ). on_run o d.size (λ _. d.enc (f.see b) (run o d.size w)) (c.enc a w)) e;
}

-- ---- the first of two, and the second
pub on_whole : (k : ℕ) (f : List ℕ → List ℕ) (w : List ℕ) → length w ≡ k → on_run 0 k f w ≡ f w
unfolding on_run
on_whole k f w e = rw (← e, drop-length w, append-nil) (ap f (run_all (length w) w refl))

module _ {A B : Type 0} (c : Codec A) (d : Codec B) (lc : Lawful c) (x y : Two A B) (w : List ℕ) (h : length w ≡ c.size + d.size) where
  left : length (c.enc x.fst (take c.size w)) ≡ c.size
  left = lc.keeps x.fst (take c.size w) (two_left c d w h)

  pub first_write : x.snd ≡ y.snd → enc_two c d y w ≡ on_run 0 c.size (λ _. c.enc y.fst (take c.size w)) (enc_two c d x w)
  first_write s =
      let k = left in
      let one : List ℕ = c.enc x.fst (take c.size w) in
      let two : List ℕ = d.enc x.snd (drop c.size w) in
      let new : List ℕ → List ℕ = λ _. c.enc y.fst (take c.size w) in
      two_is c d y w
      ∙ ap (λ z. c.enc y.fst (take c.size w) ++ d.enc z (drop c.size w)) (sym s)
      ∙ ap (λ (z : List ℕ). z ++ two) (sym (on_whole c.size new one k))
      ∙ sym (on_left 0 c.size new one two (omega arith))
      ∙ ap (on_run 0 c.size new) (sym (two_is c d x w))

  pub second_write : Lawful d → x.fst ≡ y.fst
      → enc_two c d y w ≡ on_run c.size d.size (λ _. d.enc y.snd (run c.size d.size w)) (enc_two c d x w)
  second_write ld s =
      let r = two_right c d w h in
      let one : List ℕ = c.enc x.fst (take c.size w) in
      let two : List ℕ = d.enc x.snd (drop c.size w) in
      let new : List ℕ → List ℕ = λ _. d.enc y.snd (run c.size d.size w) in
      two_is c d y w
      ∙ ap (λ z. c.enc z (take c.size w) ++ d.enc y.snd (drop c.size w)) (sym s)
      ∙ ap (λ (z : List ℕ). one ++ d.enc y.snd z) (sym (run_all d.size (drop c.size w) r))
      ∙ ap (λ (z : List ℕ). one ++ z) (sym (on_whole d.size new two (ld.keeps x.snd (drop c.size w) r)))
      ∙ sym (on_right 0 d.size new c.size one two left)
      ∙ rw (add-zero c.size) (ap (on_run c.size d.size new) (sym (two_is c d x w)))

pub after_first : {A B : Type 0} (c : Codec A) (d : Codec B) (w : List ℕ) → length w ≡ c.size + d.size
    → d.dec (drop c.size w) ≡ d.dec (run c.size d.size w)
after_first c d w h = ap d.dec (sym (run_all d.size (drop c.size w) (two_right c d w h)))

pub first_in : (a b : ℕ) → 0 + a ≤ a + b
first_in a b = omega arith

pub second_in : (a b : ℕ) → a + b ≤ a + b
second_in a b = omega arith

abbrev pub first : {A B : Type 0} {c : Codec A} {d : Codec B} → Lawful c → Lawful d → Focus (c then d) c
first {c = c} {d = d} lc ld = record {
  off = 0;
  see = λ x. x.fst;
  Else = λ x y. x.snd ≡ y.snd;
  outer = then_law lc ld;
  inner = lc;
  same = λ x y h. refl;
  inside = first_in c.size d.size;
  read = λ w h s. refl;
  write = first_write c d lc;
}

abbrev pub second : {A B : Type 0} {c : Codec A} {d : Codec B} → Lawful c → Lawful d → Focus (c then d) d
second {c = c} {d = d} lc ld = record {
  off = c.size;
  see = λ x. x.snd;
  Else = λ x y. x.fst ≡ y.fst;
  outer = then_law lc ld;
  inner = ld;
  same = λ x y h. refl;
  inside = second_in c.size d.size;
  read = λ w h s. after_first c d w h;
  write = λ x y w h. second_write c d lc x y w h ld;
}

-- ---- value i of many
module _ {A : Type 0} (c : Codec A) where
  pub many_same : (n : ℕ) (f g : ℕ → A) (w : List ℕ) → ((j : ℕ) → j < n → f j ≡ g j) → enc_many c n f w ≡ enc_many c n g w
  unfolding enc_many
  many_same zero f g w e = refl
  many_same (suc n) f g w e = rw (many_same n f g (take (n * c.size) w) (λ j p. e j (omega arith)), e n (omega arith))

  pub many_read : (n : ℕ) (blank : A) (i : ℕ) (w : List ℕ) → i < n → (many n blank c).dec w i ≡ c.dec (nth_run c.size i w)
  many_read n blank i w p = rw (lt-ltb i n p)

module _ {A : Type 0} (c : Codec A) (law : Lawful c) where
  pub many_write : (n i : ℕ) (f g : ℕ → A) (w : List ℕ) → i < n → length w ≡ n * c.size → ((j : ℕ) → j < n → (j ≡ i → ⊥) → f j ≡ g j)
      → enc_many c n g w ≡ on_run (i * c.size) c.size (λ _. c.enc (g i) (nth_run c.size i w)) (enc_many c n f w)
  many_write zero i f g w p h e = absurd (not-suc-le-zero p)
  many_write (suc n) i f g w p h e =
      let l = many_left c n w h in
      let r = many_right c n w h in
      let x : List ℕ = enc_many c n f (take (n * c.size) w) in
      let y : List ℕ = c.enc (f n) (drop (n * c.size) w) in
      let lx = many_keeps c law n f (take (n * c.size) w) l in
      by_eq i n
      (λ _ q. let new : List ℕ → List ℕ = λ _. c.enc (g n) (nth_run c.size n w) in
      rw q (many_last c n g w
      ∙ ap (λ (z : List ℕ). z ++ c.enc (g n) (drop (n * c.size) w))
      (many_same c n g f (take (n * c.size) w) (λ j s. sym (e j (omega arith) (λ z. omega arith))))
      ∙ ap (λ (z : List ℕ). x ++ c.enc (g n) z) (sym (run_all c.size (drop (n * c.size) w) r))
      ∙ ap (λ (z : List ℕ). x ++ z) (sym (on_whole c.size new y (law.keeps (f n) (drop (n * c.size) w) r)))
      ∙ sym (on_right 0 c.size new (n * c.size) x y lx)
      ∙ rw (add-zero (n * c.size)) (ap (on_run (n * c.size) c.size new) (sym (many_last c n f w)))))
      (λ _ q. let b = fits_in c.size {i = i} {n = n} (omega arith) in
      let new : List ℕ → List ℕ = λ _. c.enc (g i) (nth_run c.size i w) in
      many_last c n g w
      ∙ ap (λ z. enc_many c n g (take (n * c.size) w) ++ c.enc z (drop (n * c.size) w)) (sym (e n (omega arith) (λ z. q (sym z))))
      ∙ ap (λ (z : List ℕ). z ++ y)
      (many_write n i f g (take (n * c.size) w) (omega arith) l (λ j s. e j (omega arith))
      ∙ ap (λ (z : List ℕ). on_run (i * c.size) c.size (λ _. c.enc (g i) z) x)
      (run_front (i * c.size) c.size (n * c.size) w (omega (arith, suc-mul n c.size)) b))
      ∙ sym (on_left (i * c.size) c.size new x y (omega arith))
      ∙ ap (on_run (i * c.size) c.size new) (sym (many_last c n f w)))

abbrev pub nth : {A : Type 0} {c : Codec A} → Lawful c → (n : ℕ) (blank : A) (i : ℕ) → i < n → Focus (many n blank c) c
nth {c = c} law n blank i p = record {
  off = i * c.size;
  see = λ f. f i;
  Else = λ f g. (j : ℕ) → j < n → (j ≡ i → ⊥) → f j ≡ g j;
  outer = many_law n blank law;
  inner = law;
  same = λ f g h j s q. refl;
  inside = fits_in c.size p;
  read = λ w h s. many_read c n blank i w p;
  write = λ f g w h s. many_write c law n i f g w p h s;
}

-- ---- a value that is present
pub if_present_none : {A : Type 0} (c : Codec A) (i : ℕ) (a : A) (w : List ℕ) → i ≡ 0 → enc_if_present c i a w ≡ w
unfolding enc_if_present
if_present_none c zero a w h = refl
if_present_none c (suc i) a w h = absurd (omega arith)

pub if_present_some : {A : Type 0} (c : Codec A) (i : ℕ) (a : A) (w : List ℕ) → 0 < i → enc_if_present c i a w ≡ c.enc a w
unfolding enc_if_present
if_present_some c zero a w h = absurd (not-suc-le-zero h)
if_present_some c (suc i) a w h = refl

module _ {A : Type 0} (blank : A) (c : Codec A) (law : Lawful c) (w : List ℕ) (h : length w ≡ 1 + c.size) where
  pub filled_read : 0 < get_or w 0 0 → ((if_present blank c).dec w).snd ≡ c.dec (run 1 c.size w)
  filled_read s = rw (ne_eqb (get_or w 0 0) 0 (λ z. omega arith), run_all c.size (drop 1 w) (rest_length c.size w h))

  pub filled_write : (x y : Two ℕ A) → x.fst ≡ y.fst → 0 < x.fst
      → (if_present blank c).enc y w ≡ on_run 1 c.size (λ _. c.enc y.snd (run 1 c.size w)) ((if_present blank c).enc x w)
  filled_write x y e s =
      let l = rest_length c.size w h in
      let old : List ℕ = c.enc x.snd (drop 1 w) in
      let new : List ℕ → List ℕ = λ _. c.enc y.snd (run 1 c.size w) in
      rw (if_present_some c y.fst y.snd (drop 1 w) (omega arith), if_present_some c x.fst x.snd (drop 1 w) (omega arith))
      (ap (λ (i : ℕ). i ∷ c.enc y.snd (drop 1 w)) (sym e)
      ∙ ap (λ (z : List ℕ). x.fst ∷ c.enc y.snd z) (sym (run_all c.size (drop 1 w) l))
      ∙ ap (λ (z : List ℕ). x.fst ∷ z) (sym (on_whole c.size new old (law.keeps x.snd (drop 1 w) l)))
      ∙ sym (on_right 0 c.size new 1 (x.fst ∷ []) old refl))

abbrev pub filled : {A : Type 0} {c : Codec A} (blank : A) → Lawful c → Focus (if_present blank c) c
filled {c = c} blank law = record {
  off = 1;
  see = λ x. x.snd;
  Else = λ x y. (x.fst ≡ y.fst) × (0 < x.fst);
  outer = if_present_law blank law;
  inner = law;
  same = λ x y h. (refl, h.1);
  inside = second_in 1 c.size;
  read = λ w h s. filled_read blank c law w h s.1;
  write = λ x y w h s. filled_write blank c law w h x y s.0 s.1;
}

-- ---- one word of a value
module _ {A : Type 0} {c : Codec A} (f : Focus c word) where
  pub read_word : (w : List ℕ) → length w ≡ c.size → f.Else (c.dec w) (c.dec w) → f.see (c.dec w) ≡ get_or w f.off 0
  read_word w h s =
      f.read w h s ∙ get_or-take 1 (drop f.off w) 0 0 (omega arith) ∙ get_or-drop f.off w 0 0
      ∙ ap (λ (i : ℕ). get_or w i 0) (add-zero f.off)

  pub write_word : (a b : A) (w : List ℕ) → length w ≡ c.size → f.Else a b → c.enc b w ≡ set (c.enc a w) f.off (f.see b)
  write_word a b w h s =
      let i = f.inside in
      let k = f.outer.keeps a w h in
      f.write a b w h s ∙ sym (set_is (c.enc a w) f.off (f.see b) (omega arith))
