-- The source that fetch copies from, and what fetch makes of a bucket's record.
use Rattle.std.specs.Prelude.{◌≡◌, true, Option, Some, None, ℕ}
use Rattle.rules.specs.State.{State}
use Rattle.rules.specs.Derived.{up_member}
use Rattle.rules.specs.Views.{source}
use Rattle.layout.specs.Contents.{Agreed}

-- a bucket's source, an up member; none where the rules' id is 0
abbrev pub SourceIs : State → ℕ → Option ℕ → Type 0
SourceIs s g (Some id) = (id ≡ source s g) × (up_member s id ≡ true)
SourceIs s g None = source s g ≡ 0

abbrev pub fetched_record : Agreed → Agreed
fetched_record old = record {
  primary = old.primary;
  backup = old.backup;
  last_primary = old.last_primary;
  last_backup = old.last_backup;
  ready = old.ready;
  fetched = true;
  last_sent = old.last_sent;
  taken = old.taken;
}
