use borrow.Author.Rules.{rules}
use Rattle.layout.specs.Store.{decode_bytes}
use Rattle.layout.proofs.Bytes.{bytes_sound, bytes_size}
use Rattle.relay_list.proofs.stored.bag_bytes.Goals as goal

pub settings-settings-requires : goal.settings-settings-requires
settings-settings-requires c = record { size = bytes_size _ c.requires; sound = bytes_sound _ c.requires }

pub returns : goal.returns
unfolding decode_bytes
returns c = search rules
