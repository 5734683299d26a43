-- How values lie in words. A codec reads a value from `size` words and writes one over `size` words: words that the value does not use keep what they
-- hold, so each word after a call is determined, and a freed row or cell costs no clearing.
use Rattle.std.specs.Prelude.{◌≡◌, List, [], ◌∷◌, ◌++◌, Bool, cond, ℕ, zero, suc, ◌+◌, ◌*◌, ◌^◌, ltb, eqb, length, take, drop, get_or}
use Rattle.lists.specs.Runs.{nth_run, Below}
use Rattle.lists.specs.Rows.{over_rows, table_words, table_dec}

pub record Codec (A : Type 0) : Type 0 where
  pub size : ℕ
  pub dec : List ℕ → A
  pub enc : A → List ℕ → List ℕ

-- these words are what writing their value over them gives
abbrev pub Clean : {A : Type 0} → Codec A → List ℕ → Type 0
Clean c w = c.enc (c.dec w) w ≡ w

-- words with the value that they hold changed
abbrev pub change : {A : Type 0} → Codec A → (A → A) → List ℕ → List ℕ
change c f w = c.enc (f (c.dec w)) w

-- a word has 64 bits
abbrev pub word_limit : ℕ
word_limit = 2 ^ 64

-- this value is read back, whatever words it is written over, and what is written are words
pub record Fits {A : Type 0} (c : Codec A) (a : A) : Type 0 where
  pub back : (w : List ℕ) → length w ≡ c.size → c.dec (c.enc a w) ≡ a
  pub small : (w : List ℕ) → length w ≡ c.size → Below word_limit w → Below word_limit (c.enc a w)

-- ---- one word: a number, a yes or no
abbrev pub word : Codec ℕ
word = record { size = 1; dec = λ w. get_or w 0 0; enc = λ a w. a ∷ [] }

abbrev pub flag : Codec Bool
flag = record { size = 1; dec = λ w. eqb (get_or w 0 0) 1; enc = λ a w. cond a 1 0 ∷ [] }

-- ---- one word that is always the same: it is written, and nothing is read from it
abbrev pub fixed : ℕ → Codec (Unit {0})
fixed n = record { size = 1; dec = λ w. tt; enc = λ a w. n ∷ [] }

-- ---- the same words read as another type: a value made of its parts, and its parts
pub record Reading (A B : Type 0) : Type 0 where
  pub to : A → B
  pub from : B → A

abbrev pub via : {A B : Type 0} → Reading A B → Codec A → Codec B
via r c = record { size = c.size; dec = λ w. r.to (c.dec w); enc = λ b. c.enc (r.from b) }

-- ---- two values, one after the other
pub record Two (A B : Type 0) : Type 0 where
  pub fst : A
  pub snd : B

infixr 25 ◌&◌
abbrev pub ◌&◌ : {A B : Type 0} → A → B → Two A B
a & b = record { fst = a; snd = b }

unfoldable pub enc_two : {A B : Type 0} → Codec A → Codec B → Two A B → List ℕ → List ℕ
enc_two c d x w = c.enc x.fst (take c.size w) ++ d.enc x.snd (drop c.size w)

infixr 25 ◌then◌
abbrev pub ◌then◌ : {A B : Type 0} → Codec A → Codec B → Codec (Two A B)
c then d = record {
  size = c.size + d.size;
  dec = λ w. record { fst = c.dec (take c.size w); snd = d.dec (drop c.size w) };
  enc = enc_two c d;
}

-- ---- n values of one size; further ones are blank
unfoldable pub enc_many : {A : Type 0} → Codec A → ℕ → (ℕ → A) → List ℕ → List ℕ
enc_many c zero f w = []
enc_many c (suc n) f w = enc_many c n f (take (n * c.size) w) ++ c.enc (f n) (drop (n * c.size) w)

abbrev pub many : {A : Type 0} → ℕ → A → Codec A → Codec (ℕ → A)
many n blank c = record { size = n * c.size; dec = λ w i. cond (ltb i n) (c.dec (nth_run c.size i w)) blank; enc = enc_many c n }

-- ---- a row: a value that fills its words
pub record Row (A : Type 0) : Type 0 where
  pub size : ℕ
  pub read : List ℕ → A
  pub write : A → List ℕ

-- ---- a count and rows, at most so many; rows past the count keep what they hold
abbrev pub table : {A : Type 0} → ℕ → Row A → Codec (List A)
table most r = record {
  size = table_words r.size most;
  dec = table_dec r.size r.read;
  enc = λ l w. length l ∷ over_rows r.size r.write (take most l) (drop 1 w);
}

-- ---- an id and, where it is not 0, a value; under id 0 the words are not in use
unfoldable pub enc_if_present : {A : Type 0} → Codec A → ℕ → A → List ℕ → List ℕ
enc_if_present c zero a w = w
enc_if_present c (suc i) a w = c.enc a w

abbrev pub if_present : {A : Type 0} → A → Codec A → Codec (Two ℕ A)
if_present blank c = record {
  size = 1 + c.size;
  dec = λ w. record { fst = get_or w 0 0; snd = cond (eqb (get_or w 0 0) 0) blank (c.dec (drop 1 w)) };
  enc = λ x w. x.fst ∷ enc_if_present c x.fst x.snd (drop 1 w);
}
