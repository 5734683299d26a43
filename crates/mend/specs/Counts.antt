-- What the functions that count added chunks ask for.
use Rattle.std.specs.Prelude.{◌≡◌, List, ℕ, zero, suc, ◌+◌, ◌*◌, ◌≤◌, length, get_or, Option, Some, None}
use Rattle.lists.specs.Tests.{count_below}
use Rattle.rules.specs.declared.settings.Settings.{Settings}
use Rattle.rules.specs.State.{State}
use Rattle.layout.specs.Layout.{copy_words}
use Rattle.named.specs.Tables.{named, AllNamed}
use Rattle.mend.specs.Keys.{counted, adds_inside, lacks_beyond}
use Rattle.mend.specs.Fit.{UpAt}

-- a table of entries lies at word `from`
pub record TableFit (c : Settings) (from : ℕ) (ws : List ℕ) (len : ℕ) : Type 0 where
  pub inside : 8 * (from + copy_words c) ≤ len
  pub few : get_or ws from 0 ≤ c.entries

-- a place that holds an up member, and where the named entries lie
pub record Counts (c : Settings) (bs : List ℕ) (place : ℕ) (tables : List (Option ℕ)) : Type 0 where
  pub there : UpAt c bs place
  pub known : AllNamed c bs tables

-- the entries of the table at a word, and none where there is no table
abbrev pub CountAt : Option ℕ → List ℕ → ℕ → Type 0
CountAt (Some from) ws r = r ≡ get_or ws from 0
CountAt (None) ws r = r ≡ 0

-- the entries that the first buckets name
unfoldable pub named_below : State → ℕ → ℕ
named_below s zero = 0
named_below s (suc g) = length (named s g) + named_below s g

-- the counts of the first i entries of a bucket, and of the first n buckets, in the part from row `base` on and beyond it
pub record InBucket (s : State) (id base g i inside beyond : ℕ) : Type 0 where
  pub here : inside ≡ count_below i (adds_inside s id base g)
  pub far : beyond ≡ count_below i (lacks_beyond s id base g)

pub record InAll (s : State) (id base n inside beyond : ℕ) : Type 0 where
  pub here : inside ≡ counted s (adds_inside s id base) n
  pub far : beyond ≡ counted s (lacks_beyond s id base) n
