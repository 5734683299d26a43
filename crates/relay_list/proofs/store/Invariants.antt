use Rattle.std.proofs.Common.{◌≡◌}
use Rattle.words.specs.Words.{words}
use Rattle.layout.specs.Layout.{bag_codec}
use Rattle.relay_list.specs.Relays.{bag_of}
use Rattle.relay_list.proofs.store.Given as goal

-- so many records are written
abbrev pub invariant-loop-relay : goal.invariant-loop-relay
invariant-loop-relay l = words l.part ≡ bag_codec.enc (bag_of l.relay-index l.list) (words l.fn.part)
