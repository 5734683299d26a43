-- Marks in a log that lies in a store, and the rows of a table whose keys get them.
use Rattle.std.specs.Prelude.{◌≡◌, ◌⊎◌, Bool, List, ℕ, ◌+◌, ◌*◌, ◌/◌, ◌≤◌, ◌<◌, length, get_or, Option, Some, None}
use Rattle.lists.specs.Tests.{any_below}
use Rattle.lists.specs.Runs.{run, on_run}
use Rattle.rules.specs.declared.settings.Settings.{Settings}
use Rattle.rules.specs.Limits.{buckets}
use Rattle.rules.specs.Limits.{Limits}
use Rattle.chunk_log.specs.Log.{LogWith}
use Rattle.sweep.specs.Marks.{with_marks, swept}
use Rattle.layout.specs.Layout.{word_bytes, copy_words, log_words}
use Rattle.named.specs.Tables.{names_at}

-- a mark on each chunk, of the log at word `at`, whose key a test names
unfoldable pub marks : Settings → ℕ → (ℕ → Bool) → List ℕ → List ℕ
marks c at named ws = on_run at (log_words c) (with_marks c.chunks (c.size / word_bytes) (λ x. named x.key)) ws

-- a log, which may have marks, lies at word `at`
pub record LogIn (c : Settings) (at : ℕ) (ws : List ℕ) (len : ℕ) : Type 0 where
  pub small : Limits c
  pub inside : 8 * (at + log_words c) ≤ len
  pub log : LogWith 3 c.chunks (c.size / word_bytes) (run at (log_words c) ws) (8 * log_words c)

-- and a table of entries beside it, at word `from`
pub record TableIn (c : Settings) (at from : ℕ) (ws : List ℕ) (len : ℕ) : Type 0 where
  pub inside : 8 * (from + copy_words c) ≤ len
  pub few : get_or ws from 0 ≤ c.entries
  pub apart : (from + copy_words c ≤ at) ⊎ (at + log_words c ≤ from)

-- ---- the tables of all buckets
unfoldable pub named_first : List ℕ → List (Option ℕ) → ℕ → ℕ → Bool
named_first ws tables n key = any_below n (λ g. names_at ws (get_or tables g None) key)

pub record TablesIn (c : Settings) (at : ℕ) (tables : List (Option ℕ)) (ws : List ℕ) (len : ℕ) : Type 0 where
  pub many : length tables ≡ buckets c
  pub each : (g : ℕ) → g < buckets c → (from : ℕ) → get_or tables g None ≡ Some from → TableIn c at from ws len

-- the chunks without a mark gone, and all marks off
unfoldable pub sweeps : Settings → ℕ → List ℕ → List ℕ
sweeps c at ws = on_run at (log_words c) (swept c.chunks (c.size / word_bytes)) ws
