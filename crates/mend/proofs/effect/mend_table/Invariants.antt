use mathlib.Core.Path.{◌≡◌}
use lib.ListN.{length, take}
use Rattle.words.specs.Words.{words}
use Rattle.rules.specs.Upkeep.{mend_keys}
use Rattle.layout.specs.Store.{decode}
use Rattle.mend.specs.Fit.{with_log_at, log_of, table_of}
use Rattle.mend.proofs.effect.mend_table.Given as goal

abbrev pub invariant-loop-i : goal.invariant-loop-i
invariant-loop-i l =
    (length l.store ≡ length l.initial.store) × (length l.area ≡ l.settings.size)
    × (words l.store
    ≡ with_log_at l.settings l.place
    (mend_keys (decode (words l.initial.store)) ((decode (words l.initial.store)).ids l.place) (log_of l.place (words l.initial.store)) (take l.i (table_of l.settings l.from (words l.initial.store))))
    (words l.initial.store))
