use Rattle.words.specs.Words.{words}
use Rattle.rules.proofs.Ids.{Lowest}
use Rattle.layout.specs.Store.{decode}
use Rattle.views.specs.Members.{ids}
use Rattle.views.proofs.members.next_up.Given as goal

abbrev pub invariant-loop-place : goal.invariant-loop-place
invariant-loop-place l = Lowest (decode (words l.store)).ids (decode (words l.store)).bricks.up l.from ids l.place l.least
