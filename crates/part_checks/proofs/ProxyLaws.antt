-- A proxy: a table among other words.
use mathlib.Core.Path.{◌≡◌, ◌∙◌}
use mathlib.Core.List.{List}
use mathlib.Core.Bool.{Bool}
use Prim.Native.Nat.{ℕ}
use native.Mathlib.Omega.{arith}
use lib.Dec.{leb}
use lib.ListN.{length, drop, get_or, length-drop}
use lib.Seq.{get_or-take}
use Rattle.lists.specs.Tests.{◌and◌}
use Rattle.lists.specs.Runs.{run}
use Rattle.lists.proofs.Runs.{run_all}
use Rattle.rules.specs.Limits.{max_view_or_order, max_items}
use Rattle.rules.specs.Question.{belongs}
use Rattle.rules.specs.Sound.{sound_table, sound_proxy}
use Rattle.layout.specs.Layout.{proxy_codec, items_codec, proxy_words, items_at}

pub proxy_is : (keys : ℕ → Bool) (p : ℕ) (ws v : List ℕ) → length ws ≡ proxy_words → v ≡ run items_at items_codec.size ws
    → sound_proxy keys p (proxy_codec.dec ws).known (proxy_codec.dec ws).items
    ≡ (leb (get_or ws 0 0) max_view_or_order and sound_table keys (belongs p) max_items (items_codec.dec v))
unfolding sound_proxy
proxy_is keys p ws v h e =
    let l : length (drop 1 ws) ≡ items_codec.size = length-drop 1 ws ∙ omega arith in
    rw (get_or-take 1 ws 0 0 (omega arith), e, run_all items_codec.size (drop 1 ws) l)
