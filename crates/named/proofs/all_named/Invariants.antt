use Prim.Native.Nat.{ℕ, ◌<◌}
use mathlib.Core.Path.{◌≡◌}
use lib.ListN.{length, get_or}
use Rattle.std.specs.Prelude.{None}
use Rattle.words.specs.Words.{words}
use Rattle.layout.specs.Store.{decode}
use Rattle.named.specs.Tables.{EntriesAt, named}
use Rattle.named.proofs.all_named.Given as goal

abbrev pub invariant-loop-bucket : goal.invariant-loop-bucket
invariant-loop-bucket l =
    (length l.tables ≡ length l.initial.tables) × ((g : ℕ) → g < l.bucket → EntriesAt l.settings (words l.store) g (named (decode (words l.store)) g) (get_or l.tables g None))
