-- What the records of the code stand for, and one field of a part changed.
use Rattle.std.specs.Prelude.{ℕ}
use Rattle.codec.specs.Codec.{◌&◌}
use Rattle.records.specs.declared.agreed.Agreed.{Agreed}
use Rattle.records.specs.declared.head.Head.{Head}
use Rattle.records.specs.declared.status.Status.{Status}
use Rattle.layout.specs.Contents as contents

abbrev pub head_of : Head → contents.Head
head_of h = record { settings = h.settings; view = h.view.0; given = h.given; started = h.started }

abbrev pub agreed_of : Agreed → contents.Agreed
agreed_of a = record {
  primary = a.primary;
  backup = a.backup;
  last_primary = a.last_primary;
  last_backup = a.last_backup;
  ready = a.ready;
  fetched = a.fetched;
  last_sent = a.last_sent;
  taken = a.taken;
}

abbrev pub status_of : Status → contents.Status
status_of s = record { up = s.up; member = s.member; began = s.began; next = s.next; ceiling = s.ceiling }

-- ---- all else stays
abbrev pub with_known : ℕ → contents.Proxy → contents.Proxy
with_known view p = record { known = view; items = p.items }

abbrev pub with_id : ℕ → contents.Place → contents.Place
with_id id p = id & p.snd

abbrev pub with_status : contents.Status → contents.Place → contents.Place
with_status s p = p.fst & record { present = p.snd.present; status = s; buffer = p.snd.buffer; copies = p.snd.copies; log = p.snd.log }
