use mathlib.Core.Path.{◌≡◌}
use Rattle.words.specs.Words.{words}
use Rattle.layout.specs.Store.{decode}
use Rattle.mend.specs.Counts.{named_below}
use Rattle.mend.proofs.room.named_count.Given as goal

abbrev pub invariant-loop-from : goal.invariant-loop-from
invariant-loop-from l =
    l.count ≡ named_below (decode (words l.store)) l.from-index
