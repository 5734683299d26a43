-- Tables whose rows stand for values of a type: a change of the rows is a change of the values.
use mathlib.Core.Path.{◌≡◌, refl, sym, ap, ◌∙◌}
use mathlib.Core.Bool.{Bool}
use mathlib.Core.List.{List, [], ◌∷◌, ◌++◌, map}
use Prim.Native.Nat.{ℕ, zero, suc, ◌≤◌, ◌<◌}
use native.Mathlib.Nat.{le_refl}
use lib.ListN.{length, get_or, drop, set, drop_of_length-le}
use lib.Seq.{take_all}
use Rattle.lists.specs.Tests.{only}
use Rattle.lists.proofs.Lists.{get_or_map_in, map_only}
use Rattle.lists.specs.Rows.{table_words, table_dec, table_enc, row_words}
use Rattle.tables.specs.Tables.{insert_at, without_index}
use Rattle.codec.specs.Codec.{Row}
use Rattle.codec.proofs.Laws.{Exact, all_sized}
use Rattle.lists.proofs.Rows.{length_rows, enc_raw, dec_raw, table_back, table_over}

map_insert : {A B : Type 0} (f : A → B) (p : ℕ) (x : A) (l : List A) → map f (insert_at p x l) ≡ insert_at p (f x) (map f l)
map_insert f zero x l = refl
map_insert f (suc p) x [] = refl
map_insert {A} {B} f (suc p) x (y ∷ l) = ap (λ (r : List B). f y ∷ r) (map_insert f p x l)

map_remove : {A B : Type 0} (f : A → B) (p : ℕ) (l : List A) → map f (without_index p l) ≡ without_index p (map f l)
map_remove f zero [] = refl
map_remove f zero (y ∷ l) = refl
map_remove f (suc p) [] = refl
map_remove {A} {B} f (suc p) (y ∷ l) = ap (λ (r : List B). f y ∷ r) (map_remove f p l)

pub map_set : {A B : Type 0} (f : A → B) (p : ℕ) (x : A) (l : List A) → map f (set l p x) ≡ set (map f l) p (f x)
map_set f p x [] = refl
map_set f zero x (y ∷ l) = refl
map_set {A} {B} f (suc p) x (y ∷ l) = ap (λ (r : List B). f y ∷ r) (map_set f p x l)

-- rows that are values, written
pub typed : {A : Type 0} (r : Row A) (l : List A) (rs : List (List ℕ)) → rs ≡ map r.write l → (ws : List ℕ)
    → table_enc r.size row_words rs ws ≡ table_enc r.size r.write l ws
typed r l rs e ws = rw e (enc_raw r.size r.write l ws)

module _ {A : Type 0} {r : Row A} (x : Exact r) (most : ℕ) (ws : List ℕ) (hl : length ws ≡ table_words r.size most) where
  -- the rows, as lists of words and as values
  abbrev raw : List (List ℕ)
  raw = table_dec r.size row_words ws

  abbrev values : List A
  values = table_dec r.size r.read ws

  -- values written are read back; over fewer; in as many words
  pub typed_back : (l : List A) → table_dec r.size r.read (table_enc r.size r.write l ws) ≡ l
  typed_back l = table_back r.size most ws hl r.read r.write x.back (all_sized x l)

  pub typed_over : (k l : List A) → length k ≤ length l
      → table_enc r.size r.write l (table_enc r.size r.write k ws) ≡ table_enc r.size r.write l ws
  typed_over k l h = table_over r.size most ws hl r.read r.write (all_sized x k) l h

  module _ (few : get_or ws 0 0 ≤ most) where
    pub typed_rows : raw ≡ map r.write values
    typed_rows = sym (dec_raw r.size most ws hl r.read r.write x.exact few)

    pub typed_length : length values ≡ get_or ws 0 0
    unfolding table_dec
    typed_length = length_rows r.size r.read (get_or ws 0 0) (drop 1 ws)

    pub typed_insert : (p : ℕ) (a : A) → table_enc r.size row_words (insert_at p (r.write a) raw) ws ≡ table_enc r.size r.write (insert_at p a values) ws
    typed_insert p a = typed r (insert_at p a values) (insert_at p (r.write a) raw) (rw typed_rows (sym (map_insert r.write p a values))) ws

    -- at the end
    pub typed_append : (n : ℕ) (a : A) → n ≡ get_or ws 0 0
        → table_enc r.size row_words (insert_at n (r.write a) raw) ws ≡ table_enc r.size r.write (values ++ a ∷ []) ws
    typed_append n a e =
        let l : length values ≤ n = rw (typed_length, e) (le_refl (get_or ws 0 0)) in
        typed_insert n a
        ∙ ap (λ (k : List A). table_enc r.size r.write k ws) (rw (take_all n values l, drop_of_length-le values l))

    pub typed_remove : (p : ℕ) → table_enc r.size row_words (without_index p raw) ws ≡ table_enc r.size r.write (without_index p values) ws
    typed_remove p = typed r (without_index p values) (without_index p raw) (rw typed_rows (sym (map_remove r.write p values))) ws

    pub typed_only : (test : List ℕ → Bool) (p : A → Bool) → ((a : A) → test (r.write a) ≡ p a)
        → table_enc r.size row_words (only test raw) ws ≡ table_enc r.size r.write (only p values) ws
    typed_only test p e = typed r (only p values) (only test raw) (rw typed_rows (sym (map_only r.write p test e values))) ws

    -- the value at an index, and another in its stead
    pub typed_at : (p : ℕ) (d : A) → p < get_or ws 0 0 → get_or raw p [] ≡ r.write (get_or values p d)
    typed_at p d h = rw typed_rows (get_or_map_in r.write values p [] d (rw typed_length h))

    pub typed_set : (p : ℕ) (a : A) → table_enc r.size row_words (set raw p (r.write a)) ws ≡ table_enc r.size r.write (set values p a) ws
    typed_set p a = typed r (set values p a) (set raw p (r.write a)) (rw typed_rows (sym (map_set r.write p a values))) ws
