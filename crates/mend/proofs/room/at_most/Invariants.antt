use mathlib.Core.Path.{◌≡◌}
use Prim.Native.Nat.{◌-◌, ◌≤◌, ◌<◌}
use Rattle.words.specs.Words.{words}
use Rattle.rules.specs.Limits.{buckets, max_chunks}
use Rattle.layout.specs.Store.{decode}
use Rattle.mend.specs.Keys.{counted, adds_below}
use Rattle.mend.proofs.room.at_most.Given as goal

abbrev pub invariant-loop-count : goal.invariant-loop-count
invariant-loop-count l =
    (l.count ≤ l.room → l.base < l.settings.chunks)
    × (l.count ≡ counted (decode (words l.store)) (adds_below (decode (words l.store)) ((decode (words l.store)).ids l.place) l.base) (buckets l.settings))

abbrev pub decreases-loop-count : goal.decreases-loop-count
decreases-loop-count l = max_chunks - l.base
