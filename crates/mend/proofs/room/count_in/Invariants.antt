use Rattle.words.specs.Words.{words}
use Rattle.layout.specs.Store.{decode}
use Rattle.mend.specs.Keys.{before}
use Rattle.mend.specs.Flags.{Met}
use Rattle.mend.specs.Counts.{InBucket}
use Rattle.mend.proofs.room.count_in.Given as goal

abbrev pub invariant-loop-i : goal.invariant-loop-i
invariant-loop-i l =
    InBucket (decode (words l.store)) ((decode (words l.store)).ids l.place) l.base l.bucket l.i l.inside l.beyond
    × Met l.settings (decode (words l.store)) ((decode (words l.store)).ids l.place) l.base (before (decode (words l.store)) l.bucket l.i) l.flags
