use mathlib.Core.Path.{◌≡◌}
use lib.ListN.{length}
use Rattle.words.specs.Words.{words}
use Rattle.rules.specs.Limits.{buckets}
use Rattle.tables.specs.Tables.{kept_rows, sifting}
use Rattle.buffers.specs.Steps.{row_stays}
use Rattle.buffers.proofs.drop_bucket.Given as goal

abbrev pub invariant-loop-i : goal.invariant-loop-i
invariant-loop-i l =
    (l.o ≡ length (kept_rows 2 (row_stays (buckets l.settings) l.g) l.i (words l.initial.t)))
    × (words l.t ≡ sifting 2 (row_stays (buckets l.settings) l.g) l.i (words l.initial.t))
