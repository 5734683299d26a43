use Rattle.words.specs.Words.{words}
use Rattle.layout.specs.Store.{decode}
use Rattle.mend.specs.Keys.{before}
use Rattle.mend.specs.Flags.{Met}
use Rattle.mend.specs.Counts.{InAll}
use Rattle.mend.proofs.room.count_all.Given as goal

abbrev pub invariant-loop-bucket : goal.invariant-loop-bucket
invariant-loop-bucket l =
    InAll (decode (words l.store)) ((decode (words l.store)).ids l.place) l.base l.bucket l.inside l.beyond
    × Met l.settings (decode (words l.store)) ((decode (words l.store)).ids l.place) l.base (before (decode (words l.store)) l.bucket 0) l.flags
