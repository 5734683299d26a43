use Rattle.words.specs.Words.{words}
use Rattle.chunk_log.specs.Log.{write_log, read_log}
use Rattle.chunk_log.specs.Steps.{tag}
use Rattle.sweep.specs.Sweep.{triple_of}
use mathlib.Core.Path.{◌≡◌}
use Rattle.sweep.proofs.mark_saved.Given as goal

abbrev pub invariant-loop-i : goal.invariant-loop-i
invariant-loop-i l =
    (words l.log ≡ write_log l.chunks
    (tag (triple_of (read_log l.chunks l.width (words l.initial.log))) l.i (read_log l.chunks l.width (words l.initial.log))) (words l.initial.log))
