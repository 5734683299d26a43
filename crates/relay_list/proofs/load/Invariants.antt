use Rattle.std.proofs.Common.{◌≡◌, take}
use Rattle.words.specs.Words.{words}
use Rattle.layout.specs.Layout.{bag_codec}
use Rattle.relay_list.specs.Relays.{relays_of, over}
use Rattle.relay_list.proofs.load.Given as goal

-- so many records are filled
abbrev pub invariant-loop-i : goal.invariant-loop-i
invariant-loop-i l = relays_of l.list ≡ over (take l.i (bag_codec.dec (words l.part))) l.initial.list
