use mathlib.Core.Path.{◌≡◌}
use Rattle.lists.specs.Runs.{on_run}
use Rattle.words.specs.Words.{words}
use Rattle.entries.specs.Entries.{entries_words}
use Rattle.rules.specs.Limits.{buckets}
use Rattle.buffers.proofs.Drained.{drained}
use Rattle.layout.specs.Layout.{entries_codec}
use Rattle.buffers.proofs.drain.Given as goal

abbrev pub invariant-loop-i : goal.invariant-loop-i
invariant-loop-i l =
    words l.s ≡ on_run l.copy (entries_words l.most) ((entries_codec l.most).enc (drained (buckets l.settings) l.g l.buffer l.waiting l.copy l.most (words l.initial.s) l.i)) (words l.initial.s)
