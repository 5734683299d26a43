-- The test of a chunk log in words, and how it goes along the positions.
use Rattle.std.specs.Prelude.{◌≡◌, List, Bool, ℕ, zero, suc, ◌+◌, ◌*◌, ◌≤◌, ◌<◌, ltb, length, get_or}
use Rattle.std.specs.Int.Bits.{bit_or}
use Rattle.lists.specs.Tests.{◌and◌}
use Rattle.rules.specs.declared.settings.Settings.{Settings}
use Rattle.rules.specs.Limits.{max_chunks}
use Rattle.rules.specs.Sound.{sound_log}
use Rattle.words.specs.Words.{words}
use Rattle.chunk_log.specs.Log.{row_saved, position_at, key_by, good_log}
use Rattle.chunk_log.specs.Steps.{row_good}
use Rattle.layout.specs.Layout.{log_codec, log_words}
use Rattle.rules.specs.Limits.{Limits}
use Rattle.row_checks.specs.Rows.{ids}

-- the key before the row at a position of the order; keys are above 0
unfoldable pub key_before : ℕ → List ℕ → ℕ → ℕ
key_before chunks ws zero = 0
key_before chunks ws (suc j) = key_by chunks ws j

-- position j of the order: a row in use, its flag 0 or 1, its key above the one before and below its bound
unfoldable pub row_passes : (ℕ → Bool) → ℕ → ℕ → List ℕ → ℕ → Bool
row_passes good chunks n ws j = row_good chunks n ws j and ltb (key_before chunks ws j) (key_by chunks ws j) and good (key_by chunks ws j)

-- the log's linear test, of its positions and flags, and the rules' test of what is decoded
unfoldable pub log_sound : Settings → (ℕ → Bool) → List ℕ → Bool
log_sound c keys ws = good_log c.chunks ws and sound_log keys c ((log_codec c).dec ws)

-- position k is that of a row in use with this key, below the next, and its flag is gathered with those before
pub record KeyUnder (chunks n : ℕ) (ws : List ℕ) (k next before key flags : ℕ) : Type 0 where
  pub row : position_at chunks ws k < n
  pub here : key ≡ key_by chunks ws k
  pub below : key < next
  pub gathered : flags ≡ bit_or before (row_saved ws (position_at chunks ws k))

pub record KeyFit (bytes chunks n k : ℕ) : Type 0 where
  pub few : n ≤ chunks
  pub small : chunks ≤ max_chunks
  pub room : 8 * (1 + 3 * chunks) ≤ bytes
  pub inside : k < n

-- the positions from r to below i are those of rows in use, and from the key at i down to that at r keys descend and stay above the floor; the flags of
-- those rows are 0 or 1 just where their bits together are
pub record Descent (chunks n : ℕ) (ws : List ℕ) (floor i r key flags : ℕ) : Type 0 where
  pub inside : r ≤ i
  pub here : key ≡ key_by chunks ws r
  pub above : floor < key
  pub under : key ≤ key_by chunks ws i
  pub rows : (k : ℕ) → r ≤ k → k < i → position_at chunks ws k < n
  pub rises : (k : ℕ) → r ≤ k → k < i → key_by chunks ws k < key_by chunks ws (suc k)
  pub range : (k : ℕ) → r ≤ k → k < i → (floor < key_by chunks ws k) × (key_by chunks ws k ≤ key_by chunks ws i)
  pub clean : flags ≤ 1 → (k : ℕ) → r ≤ k → k < i → row_saved ws (position_at chunks ws k) ≤ 1
  pub dirty : ((k : ℕ) → r ≤ k → k < i → row_saved ws (position_at chunks ws k) ≤ 1) → flags ≤ 1

pub record DescendFit (log : List ℕ) (chunks n i floor key : ℕ) : Type 0 where
  pub few : n ≤ chunks
  pub small : chunks ≤ max_chunks
  pub room : 8 * (1 + 3 * chunks) ≤ length log
  pub inside : i < n
  pub here : key ≡ key_by chunks (words log) i
  pub above : floor < key

-- no brick has id 0
pub record PassFit (bounds : List ℕ) (bytes chunks n : ℕ) : Type 0 where
  pub known : length bounds ≡ ids
  pub none : get_or bounds 0 0 ≡ 0
  pub few : n ≤ chunks
  pub small : chunks ≤ max_chunks
  pub room : 8 * (1 + 3 * chunks) ≤ bytes

pub record LogFit (c : Settings) (bounds : List ℕ) (bytes : ℕ) : Type 0 where
  pub known : length bounds ≡ ids
  pub none : get_or bounds 0 0 ≡ 0
  pub small : Limits c
  pub size : bytes ≡ 8 * log_words c
