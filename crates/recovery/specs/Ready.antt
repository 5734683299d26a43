-- What ready makes of a place, and of a bucket's record.
use Rattle.std.specs.Prelude.{Bool, true, not, cond, ℕ, eqb}
use Rattle.lists.specs.Tests.{◌and◌}
use Rattle.lists.specs.Columns.{upd}
use Rattle.codec.specs.Codec.{◌&◌}
use Rattle.layout.specs.Contents.{Agreed, Place, blank_copies}

-- ---- up bricks outside the pair drop their copies
unfoldable pub outside : ℕ → ℕ → Bool → ℕ → Bool
outside primary backup up id = up and not (eqb id primary) and not (eqb id backup)

abbrev pub emptied : ℕ → Place → Place
emptied g p = p.fst & record {
  present = p.snd.present;
  status = p.snd.status;
  buffer = p.snd.buffer;
  copies = upd p.snd.copies g blank_copies;
  log = p.snd.log;
}

abbrev pub dropped_copies : ℕ → ℕ → ℕ → Place → Place
dropped_copies g primary backup p = cond (outside primary backup p.snd.status.up p.fst) (emptied g p) p

-- ---- the pair becomes the last ready pair
abbrev pub ready_record : Agreed → Agreed
ready_record old = record {
  primary = old.primary;
  backup = old.backup;
  last_primary = old.primary;
  last_backup = old.backup;
  ready = true;
  fetched = old.fetched;
  last_sent = old.last_sent;
  taken = old.taken;
}
