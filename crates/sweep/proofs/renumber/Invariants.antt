use lib.ListN.{length}
use Rattle.words.specs.Words.{words}
use Rattle.sweep.specs.Sweep.{pick_first, put_positions}
use mathlib.Core.Path.{◌≡◌}
use Rattle.sweep.proofs.renumber.Given as goal

abbrev pub invariant-loop-j : goal.invariant-loop-j
invariant-loop-j l = record {
  next : l.o ≡ length (pick_first l.chunks (words l.initial.log) l.j);
  written : words l.log ≡ put_positions l.chunks (pick_first l.chunks (words l.initial.log) l.j) (words l.initial.log);
}
