-- Chunks that leave a log, by marks in the saved words: of a saved word s below 4, s / 2 is 1 where the chunk stays, and s % 2 says whether it is saved.
-- First each row's rank among those that stay joins its saved word (above the two bits); then the positions, and then rows and cells, are gone through once.
use Rattle.std.specs.Prelude.{◌≡◌, Bool, cond, List, [], ◌∷◌, ◌++◌, ℕ, zero, suc, ◌+◌, ◌*◌, ◌/◌, ◌%◌, eqb, length, get_or, set, drop}
use Rattle.std.proofs.Math.Seq.{paste}
use Rattle.lists.specs.Runs.{enc_all}
use Rattle.chunk_log.specs.Log.{Stored, row_of, cell_of, stored_at, saved_of, rows_in, positions_in, cells_in, lay, over, row_key, row_saved, position_at}
use Rattle.chunk_log.specs.Log.{write_log, read_log}
use Rattle.chunk_log.specs.Steps.{with_saved, tag}

-- a chunk with this saved word stays
abbrev pub stays : ℕ → Bool
stays s = eqb (s % 4 / 2) 1

-- a chunk without its mark
abbrev pub plain : Stored → Stored
plain x = with_saved (x.saved % 2) x

-- the chunks that stay, without their marks
unfoldable pub kept_chunks : List Stored → List Stored
kept_chunks [] = []
kept_chunks (x ∷ xs) = cond (stays x.saved) (plain x ∷ kept_chunks xs) (kept_chunks xs)

-- ---- the passes, step by step
-- those of the first i that stay
unfoldable pub kept_first : List Stored → ℕ → List Stored
kept_first xs zero = []
kept_first xs (suc i) = cond (stays (saved_of xs i)) (kept_first xs i ++ plain (stored_at xs i) ∷ []) (kept_first xs i)

-- how many of the first i stay
unfoldable pub rank : (ℕ → ℕ) → ℕ → ℕ
rank f zero = 0
rank f (suc i) = rank f i + f i / 2

-- a saved word joined with its row's rank, and one without its mark
abbrev pub tag_of : List Stored → ℕ → ℕ
tag_of xs i = saved_of xs i + 4 * rank (saved_of xs) i

abbrev pub plain_of : List Stored → ℕ → ℕ
plain_of xs i = saved_of xs i % 2

-- the index after a row with saved word v
abbrev pub next_by : ℕ → ℕ → ℕ
next_by v o = cond (stays v) (o + 1) o

-- the positions of the chunks that stay, of the first j, as their ranks
unfoldable pub pick_first : ℕ → List ℕ → ℕ → List ℕ
pick_first chunks ws zero = []
pick_first chunks ws (suc j) =
    cond (stays (row_saved ws (position_at chunks ws j))) (pick_first chunks ws j ++ row_saved ws (position_at chunks ws j) / 4 ∷ []) (pick_first chunks ws j)

-- words with other positions in front
unfoldable pub put_positions : ℕ → List ℕ → List ℕ → List ℕ
put_positions chunks xs ws = lay (get_or ws 0 0) (rows_in chunks ws) (over xs (positions_in chunks ws)) (cells_in chunks ws)

-- the position at index j, where its row stays, at index o
unfoldable pub numbered : ℕ → ℕ → ℕ → List ℕ → List ℕ
numbered chunks j o ws = cond (stays (row_saved ws (position_at chunks ws j))) (set ws (1 + 2 * chunks + o) (row_saved ws (position_at chunks ws j) / 4)) ws

-- rows and cells after i rows
unfoldable pub packing : ℕ → List Stored → ℕ → List ℕ → List ℕ
packing chunks xs i ws =
    lay (get_or ws 0 0) (over (enc_all row_of (kept_first xs i)) (over (enc_all row_of (tag (plain_of xs) i xs)) (rows_in chunks ws))) (positions_in chunks ws)
    (over (enc_all cell_of (kept_first xs i)) (cells_in chunks ws))

-- cell i at index o
unfoldable pub moved : ℕ → ℕ → ℕ → ℕ → List ℕ → List ℕ
moved chunks width i o ws = paste ws (1 + 3 * chunks + o * width) (drop (1 + 3 * chunks + i * width) ws) width

-- row i without its mark, and where it stays at index o with its cell
unfoldable pub packed : ℕ → ℕ → ℕ → ℕ → List ℕ → List ℕ
packed chunks width i o ws =
    cond (stays (row_saved ws i))
    (moved chunks width i o (set (set (set ws (2 + 2 * i) (row_saved ws i % 2)) (1 + 2 * o) (row_key ws i)) (2 + 2 * o) (row_saved ws i % 2)))
    (set ws (2 + 2 * i) (row_saved ws i % 2))

-- a saved chunk's mark
abbrev pub triple_of : List Stored → ℕ → ℕ
triple_of xs i = 3 * saved_of xs i

-- ---- what the passes leave
-- each saved word with four times the rank of its row
abbrev pub ranked : ℕ → ℕ → ℕ → List ℕ → List ℕ
ranked chunks width n ws = let xs = read_log chunks width ws in write_log chunks (tag (tag_of xs) n xs) ws

pub record RenumberStep (chunks j o : ℕ) (ws vs : List ℕ) (r : ℕ) : Type 0 where
  pub words : vs ≡ numbered chunks j o ws
  pub next : r ≡ next_by (row_saved ws (position_at chunks ws j)) o

pub record PackStep (chunks width i o : ℕ) (ws vs : List ℕ) (r : ℕ) : Type 0 where
  pub words : vs ≡ packed chunks width i o ws
  pub next : r ≡ next_by (row_saved ws i) o

pub record PackAll (chunks width n : ℕ) (ws vs : List ℕ) (r : ℕ) : Type 0 where
  pub words : vs ≡ packing chunks (read_log chunks width ws) n ws
  pub left : r ≡ length (kept_first (read_log chunks width ws) n)
