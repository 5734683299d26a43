use mathlib.Core.Path.{◌≡◌}
use mathlib.Core.List.{◌++◌}
use Prim.Native.Nat.{◌*◌}
use lib.ListN.{length, drop}
use Rattle.rules.specs.Pairs.{assignments_of}
use Rattle.words.specs.Words.{words}
use Rattle.layout.specs.Store.{decode}
use Rattle.views.proofs.assigned.last_pairs.Given as goal

abbrev pub invariant-loop-bucket : goal.invariant-loop-bucket
invariant-loop-bucket l =
    (length l.assigned ≡ 2 * l.count)
    × (l.assigned ≡ assignments_of l.bucket (λ g. ((decode (words l.store)).bucket g).last_primary) (λ g. ((decode (words l.store)).bucket g).last_backup) ++ drop (2 * l.bucket)
    l.initial.assigned)
