use mathlib.Core.Path.{◌≡◌}
use Prim.Native.Nat.{◌-◌}
use lib.ListN.{length}
use Rattle.rules.specs.Limits.{max_id}
use Rattle.words.specs.Words.{words}
use Rattle.layout.specs.Store.{decode}
use Rattle.views.specs.Members.{ids}
use Rattle.views.proofs.UpIds.{Listed}
use Rattle.views.proofs.members.up_ids.Given as goal

abbrev pub invariant-loop-id : goal.invariant-loop-id
invariant-loop-id l = (length l.ids ≡ max_id) × Listed (decode (words l.store)) l.ids l.count l.from

abbrev pub decreases-loop-id : goal.decreases-loop-id
decreases-loop-id l = ids - l.from
