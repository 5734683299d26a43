use mathlib.Core.Path.{◌≡◌}
use lib.ListN.{length}
use Rattle.words.specs.Words.{words}
use Rattle.rules.specs.Upkeep.{mend_buckets}
use Rattle.layout.specs.Store.{decode}
use Rattle.mend.specs.Fit.{with_log_at}
use Rattle.mend.proofs.effect.mend_all.Given as goal

abbrev pub invariant-loop-from : goal.invariant-loop-from
invariant-loop-from l =
    (length l.store ≡ length l.initial.store) × (length l.area ≡ l.settings.size)
    × (words l.store ≡ with_log_at l.settings l.place (mend_buckets (decode (words l.initial.store)) ((decode (words l.initial.store)).ids l.place) l.from-index) (words l.initial.store))
