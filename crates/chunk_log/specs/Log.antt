-- A brick's chunk log in words: a count; `chunks` rows (key, saved) in arrival order; `chunks` positions, of which those in use list the rows by ascending
-- key; `chunks` cells of `width` words, cell i of row i. What lies past the count is not in use and keeps its words.
use Rattle.std.specs.Prelude.{◌≡◌, ◌≢◌, Bool, false, cond, List, [], ◌∷◌, ◌++◌, map, ℕ, zero, suc, ◌+◌, ◌*◌, ◌-◌, ◌≤◌, ◌<◌, ltb, leb, eqb, length, get_or, take, drop, replicate}
use Rattle.lists.specs.Tests.{◌and◌, all_below}
use Rattle.lists.specs.Runs.{run, enc_all, Sized}
use Rattle.lists.specs.Ascending.{FirstNotBelow}
use Rattle.words.specs.Words.{words, unwords}
use Rattle.rules.specs.Chunks.{Chunk, new_chunk}
use Rattle.codec.specs.Codec.{Codec}
use Rattle.chunk_log.specs.Positions.{positions}

-- so many words has a log
abbrev pub log_size : ℕ → ℕ → ℕ
log_size chunks width = 1 + 3 * chunks + chunks * width

-- ---- chunks as words: the saved word is 0 or 1, and more only while chunks are marked
pub record Stored : Type 0 where
  pub key : ℕ
  pub saved : ℕ
  pub cell : List ℕ

abbrev pub stored : ℕ → ℕ → List ℕ → Stored
stored k s d = record { key = k; saved = s; cell = d }

abbrev pub row_of : Stored → List ℕ
row_of x = x.key ∷ x.saved ∷ []

abbrev pub cell_of : Stored → List ℕ
cell_of x = x.cell

abbrev pub stored_at : List Stored → ℕ → Stored
stored_at xs i = get_or xs i (stored 0 0 [])

abbrev pub key_at : List Stored → ℕ → ℕ
key_at xs i = (stored_at xs i).key

abbrev pub saved_of : List Stored → ℕ → ℕ
saved_of xs i = (stored_at xs i).saved

-- the positions of the chunks, by ascending key
unfoldable pub positions_of : List Stored → List ℕ
positions_of xs = positions (key_at xs) (length xs)

-- ---- the regions
abbrev pub rows_in : ℕ → List ℕ → List ℕ
rows_in chunks ws = run 1 (2 * chunks) ws

abbrev pub positions_in : ℕ → List ℕ → List ℕ
positions_in chunks ws = run (1 + 2 * chunks) chunks ws

abbrev pub cells_in : ℕ → List ℕ → List ℕ
cells_in chunks ws = drop (1 + 3 * chunks) ws

unfoldable pub lay : ℕ → List ℕ → List ℕ → List ℕ → List ℕ
lay count rows places cells = count ∷ (rows ++ (places ++ cells))

-- a region with some words at its front; past them it keeps what it holds
unfoldable pub over : List ℕ → List ℕ → List ℕ
over front region = front ++ drop (length front) region

-- chunks written over words
unfoldable pub write_log : ℕ → List Stored → List ℕ → List ℕ
write_log chunks xs ws =
    lay (length xs) (over (enc_all row_of xs) (rows_in chunks ws)) (over (positions_of xs) (positions_in chunks ws))
    (over (enc_all cell_of xs) (cells_in chunks ws))

unfoldable pub read_rows : ℕ → ℕ → List ℕ → List ℕ → List Stored
read_rows width zero rows cells = []
read_rows width (suc n) rows cells = stored (get_or rows 0 0) (get_or rows 1 0) (take width cells) ∷ read_rows width n (drop 2 rows) (drop width cells)

-- the chunks that words hold
unfoldable pub read_log : ℕ → ℕ → List ℕ → List Stored
read_log chunks width ws = read_rows width (get_or ws 0 0) (rows_in chunks ws) (cells_in chunks ws)

-- ---- the same as the rules' chunks: read from words, and written over words (at most so many, each cell of its size)
abbrev pub to_chunk : Stored → Chunk
to_chunk x = new_chunk x.key (eqb x.saved 1) (unwords x.cell)

unfoldable pub fixed : ℕ → List ℕ → List ℕ
fixed width ws = take width (ws ++ replicate width 0)

abbrev pub from_chunk : ℕ → Chunk → Stored
from_chunk width c = stored c.key (cond c.saved 1 0) (fixed width (words c.bytes))

abbrev pub chunk_at : List Chunk → ℕ → Chunk
chunk_at cs i = get_or cs i (new_chunk 0 false [])

unfoldable pub log_dec : ℕ → ℕ → List ℕ → List Chunk
log_dec chunks width ws = map to_chunk (read_log chunks width ws)

unfoldable pub log_enc : ℕ → ℕ → List Chunk → List ℕ → List ℕ
log_enc chunks width cs ws = write_log chunks (map (from_chunk width) (take chunks cs)) ws

-- a log as one codec of a list of chunks
abbrev pub chunks_codec : ℕ → ℕ → Codec (List Chunk)
chunks_codec chunks width = record { size = log_size chunks width; dec = log_dec chunks width; enc = log_enc chunks width }

-- ---- the check
abbrev pub row_key : List ℕ → ℕ → ℕ
row_key ws i = get_or ws (1 + 2 * i) 0

abbrev pub row_saved : List ℕ → ℕ → ℕ
row_saved ws i = get_or ws (2 + 2 * i) 0

abbrev pub position_at : ℕ → List ℕ → ℕ → ℕ
position_at chunks ws j = get_or ws (1 + 2 * chunks + j) 0

-- the key of the row at position j of the order
abbrev pub key_by : ℕ → List ℕ → ℕ → ℕ
key_by chunks ws j = row_key ws (position_at chunks ws j)

-- a flag is 0 or 1; a position is that of a row in use; keys ascend
abbrev pub flag_at : List ℕ → ℕ → Bool
flag_at ws i = leb (row_saved ws i) 1

abbrev pub below_at : ℕ → ℕ → List ℕ → ℕ → Bool
below_at chunks n ws j = ltb (position_at chunks ws j) n

abbrev pub rises_at : ℕ → List ℕ → ℕ → Bool
rises_at chunks ws j = ltb (key_by chunks ws j) (key_by chunks ws (j + 1))

-- the count and the flags are in range, and the positions list the rows by ascending key: so no key stands twice
unfoldable pub good_log : ℕ → List ℕ → Bool
good_log chunks ws =
    let n = get_or ws 0 0 in
    leb n chunks and all_below n (flag_at ws) and all_below n (below_at chunks n ws) and all_below (n - 1) (rises_at chunks ws)

-- ---- what the functions on a log need and say
-- the first n positions are those of n rows by ascending key
pub record Ordered (chunks n : ℕ) (ws : List ℕ) : Type 0 where
  pub below : (j : ℕ) → j < n → position_at chunks ws j < n
  pub rising : (i j : ℕ) → i < j → j < n → key_by chunks ws i < key_by chunks ws j

-- len bytes, with the words ws, are a log whose saved words are at most top
pub record LogWith (top chunks width : ℕ) (ws : List ℕ) (len : ℕ) : Type 0 where
  pub few : get_or ws 0 0 ≤ chunks
  pub size : len ≡ 8 * log_size chunks width
  pub flags : (i : ℕ) → i < get_or ws 0 0 → row_saved ws i ≤ top
  pub order : Ordered chunks (get_or ws 0 0) ws

abbrev pub IsLog : ℕ → ℕ → List ℕ → ℕ → Type 0
IsLog chunks width ws len = LogWith 1 chunks width ws len

-- r is the first index of the order whose key is not below k
abbrev pub KeyBound : ℕ → ℕ → List ℕ → ℕ → ℕ → Type 0
KeyBound chunks n ws k r = FirstNotBelow (key_by chunks ws) n k r

-- chunks that a log's words can hold
pub record Fits (chunks width : ℕ) (xs : List Stored) : Type 0 where
  pub few : length xs ≤ chunks
  pub sized : Sized cell_of width xs

-- flags in range, and no key twice
pub record Good (xs : List Stored) : Type 0 where
  pub flags : (i : ℕ) → i < length xs → (stored_at xs i).saved ≤ 1
  pub distinct : (i j : ℕ) → i < j → j < length xs → key_at xs i ≢ key_at xs j

-- no chunk has the key
abbrev pub Lacks : List Stored → ℕ → Type 0
Lacks xs k = (i : ℕ) → i < length xs → key_at xs i ≢ k
