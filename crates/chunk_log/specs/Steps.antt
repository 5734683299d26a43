-- What single steps of the code leave: cited by the contracts of the log's inner functions.
use Rattle.std.specs.Prelude.{Bool, List, [], ◌∷◌, ℕ, zero, suc, ◌+◌, ◌*◌, ◌-◌, get_or, set, drop}
use Rattle.std.proofs.Math.Seq.{paste}
use Rattle.lists.specs.Tests.{◌and◌, all_below}
use Rattle.lists.specs.Runs.{run}
use Rattle.words.specs.Words.{unwords}
use Rattle.rules.specs.Chunks.{new_chunk, append}
use Rattle.codec.specs.Codec.{change}
use Rattle.chunk_log.specs.Log.{chunks_codec, Stored, stored, stored_at, position_at, flag_at, below_at, rises_at}

-- the words of the cell of row i, and the bytes in the one after the last chunk's
abbrev pub cell_in : ℕ → ℕ → ℕ → List ℕ → List ℕ
cell_in chunks width i ws = run (1 + 3 * chunks + i * width) width ws

abbrev pub next_bytes : ℕ → ℕ → List ℕ → List ℕ
next_bytes chunks width ws = unwords (cell_in chunks width (get_or ws 0 0) ws)

-- a chunk more: the one whose bytes stand there
abbrev pub with_next : ℕ → ℕ → ℕ → Bool → List ℕ → List ℕ
with_next chunks width k saved ws = change (chunks_codec chunks width) (λ l. append l (new_chunk k saved (next_bytes chunks width ws))) ws

-- the check in one pass along the positions: each is that of a row in use whose flag is in range, and keys ascend
abbrev pub row_good : ℕ → ℕ → List ℕ → ℕ → Bool
row_good chunks n ws j = below_at chunks n ws j and flag_at ws (position_at chunks ws j)

unfoldable pub good_order : ℕ → ℕ → List ℕ → Bool
good_order chunks n ws = all_below n (row_good chunks n ws) and all_below (n - 1) (rises_at chunks ws)

-- ---- other saved words
abbrev pub with_saved : ℕ → Stored → Stored
with_saved s x = stored x.key s x.cell

-- the chunk at position p
unfoldable pub put_saved : ℕ → ℕ → List Stored → List Stored
put_saved p s xs = set xs p (with_saved s (stored_at xs p))

-- the first i chunks get the saved words g 0, g 1, ..
unfoldable pub tag : (ℕ → ℕ) → ℕ → List Stored → List Stored
tag g zero xs = xs
tag g (suc i) [] = []
tag g (suc i) (x ∷ xs) = with_saved (g 0) x ∷ tag (λ j. g (suc j)) i xs

-- ---- one more row: row n written, its position in at index p of the order, and counted
unfoldable pub entered : ℕ → ℕ → ℕ → ℕ → ℕ → List ℕ → List ℕ
entered chunks n p k s ws =
    let o = 1 + 2 * chunks in
    set (set (set (set (paste ws (o + (p + 1)) (drop (o + p) ws) (n - p)) (o + p) n) (1 + 2 * n) k) (2 + 2 * n) s) 0 (n + 1)
