-- Rows of one width in a list of words, one after the other; and a table: a count, then so many rows. Rows past the count keep what they hold.
use Rattle.std.specs.Prelude.{List, [], ◌∷◌, ◌++◌, ℕ, zero, suc, ◌+◌, ◌*◌, length, get_or, take, drop}
use Rattle.lists.specs.Runs.{enc_all}

-- the first n rows, each read from `width` words
unfoldable pub rows : {A : Type 0} → ℕ → (List ℕ → A) → ℕ → List ℕ → List A
rows width read zero ws = []
rows width read (suc n) ws = read (take width ws) ∷ rows width read n (drop width ws)

-- rows written over words, and past them what was there
abbrev pub over_rows : {A : Type 0} → ℕ → (A → List ℕ) → List A → List ℕ → List ℕ
over_rows width write l ws = enc_all write l ++ drop (length l * width) ws

-- so many words has a table of at most so many rows
abbrev pub table_words : ℕ → ℕ → ℕ
table_words width most = 1 + most * width

-- the rows in use
unfoldable pub table_dec : {A : Type 0} → ℕ → (List ℕ → A) → List ℕ → List A
table_dec width read ws = rows width read (get_or ws 0 0) (drop 1 ws)

-- the count and the rows written over words
unfoldable pub table_enc : {A : Type 0} → ℕ → (A → List ℕ) → List A → List ℕ → List ℕ
table_enc width write l ws = length l ∷ over_rows width write l (drop 1 ws)

-- a row as the list of its words
abbrev pub row_words : List ℕ → List ℕ
row_words r = r
