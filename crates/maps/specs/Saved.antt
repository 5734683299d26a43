-- What savemap does to a place.
use Rattle.std.specs.Prelude.{true}
use Rattle.codec.specs.Codec.{◌&◌}
use Rattle.layout.specs.Contents.{Place}
use Rattle.lent.specs.Parts.{all_matched}

-- its brick's copies in memory go to disk
abbrev pub saved : Place → Place
saved p = p.fst & record {
  present = p.snd.present;
  status = p.snd.status;
  buffer = p.snd.buffer;
  copies = all_matched true p.snd.copies;
  log = p.snd.log;
}
