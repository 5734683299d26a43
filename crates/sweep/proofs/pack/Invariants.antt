use lib.ListN.{length}
use Rattle.words.specs.Words.{words}
use Rattle.chunk_log.specs.Log.{read_log}
use Rattle.sweep.specs.Sweep.{packing, kept_first}
use mathlib.Core.Path.{◌≡◌}
use Rattle.sweep.proofs.pack.Given as goal

abbrev pub invariant-loop-i : goal.invariant-loop-i
invariant-loop-i l = record {
  next : l.o ≡ length (kept_first (read_log l.chunks l.width (words l.initial.log)) l.i);
  written : words l.log ≡ packing l.chunks (read_log l.chunks l.width (words l.initial.log)) l.i (words l.initial.log);
}
