use Rattle.words.specs.Words.{words}
use Rattle.chunk_log.specs.Log.{saved_of, write_log, read_log}
use Rattle.chunk_log.specs.Steps.{tag}
use Rattle.sweep.specs.Sweep.{rank, tag_of}
use mathlib.Core.Path.{◌≡◌}
use Prim.Native.Nat.{◌≤◌}
use Rattle.sweep.proofs.rank.Given as goal

abbrev pub invariant-loop-i : goal.invariant-loop-i
invariant-loop-i l = record {
  ranked : l.m ≡ rank (saved_of (read_log l.chunks l.width (words l.initial.log))) l.i;
  few : l.m ≤ l.i;
  written : words l.log ≡ write_log l.chunks (tag (tag_of (read_log l.chunks l.width (words l.initial.log))) l.i (read_log l.chunks l.width (words l.initial.log))) (words l.initial.log);
}
