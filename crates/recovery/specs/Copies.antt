-- A bucket's copies, in the words of a store.
use Rattle.std.specs.Prelude.{◌≡◌, not, List, ℕ, ◌+◌, ◌*◌, ◌≤◌, ◌<◌, get_or}
use Rattle.lists.specs.Tests.{only}
use Rattle.lists.specs.Runs.{run, on_run}
use Rattle.rules.specs.declared.settings.Settings.{Settings}
use Rattle.rules.specs.Limits.{buckets, max_waiting}
use Rattle.rules.specs.Entries.{is_of_bucket}
use Rattle.rules.specs.Limits.{Limits}
use Rattle.tables.specs.Tables.{Sorted}
use Rattle.codec.specs.Codec.{change}
use Rattle.layout.specs.Layout.{buffer_codec, copy_words, store_words, place_at, copies_at, buffer_at}
use Rattle.entries.specs.Entries.{entry_words, copied_entries}
use Rattle.buffers.specs.Steps.{drained_words}

-- where a place's copies of a bucket lie
abbrev pub memory_word : Settings → ℕ → ℕ → ℕ
memory_word c g p = place_at c p + copies_at c g

abbrev pub disk_word : Settings → ℕ → ℕ → ℕ
disk_word c g p = place_at c p + (copies_at c g + copy_words c)

-- ---- the copy in memory at one place replaces those at another
abbrev pub replaced_words : Settings → ℕ → ℕ → ℕ → List ℕ → List ℕ
replaced_words c g from to ws =
    copied_entries c.entries (memory_word c g from) (memory_word c g to) (copied_entries c.entries (memory_word c g from) (disk_word c g to) ws)

pub record Replaces (c : Settings) (g from to : ℕ) (ws : List ℕ) (len : ℕ) : Type 0 where
  pub limits : Limits c
  pub size : len ≡ 8 * store_words c
  pub bucket : g < buckets c
  pub from_in : from < c.places
  pub to_in : to < c.places
  pub few : get_or ws (memory_word c g from) 0 ≤ c.entries

-- ---- the bucket's entries move from a place's append buffer into its copy in memory
abbrev pub moved_words : Settings → ℕ → ℕ → List ℕ → List ℕ
moved_words c g p ws =
    on_run (place_at c p + buffer_at) buffer_codec.size (change buffer_codec (only (λ e. not (is_of_bucket (buckets c) g e))))
    (drained_words (buckets c) g (place_at c p + buffer_at) max_waiting (memory_word c g p) c.entries ws)

pub record Moves (c : Settings) (g p : ℕ) (ws : List ℕ) (len : ℕ) : Type 0 where
  pub limits : Limits c
  pub size : len ≡ 8 * store_words c
  pub bucket : g < buckets c
  pub inside : p < c.places
  pub few : get_or ws (place_at c p + buffer_at) 0 ≤ max_waiting
  pub sorted : Sorted entry_words c.entries (run (memory_word c g p) (copy_words c) ws) (8 * copy_words c)
