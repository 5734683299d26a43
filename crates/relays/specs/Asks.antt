-- Questions of deliver, of a relay that is taken.
use Rattle.std.specs.Prelude.{List, [], ◌∷◌}
use Rattle.rules.specs.Entries.{takes}
use Rattle.rules.specs.State.{State, Relay}
use Rattle.rules.specs.Derived.{up_member, backup_memory}
use Rattle.rules.specs.Question.{Question, ◌asks◌}

-- is the backup an up member, and may its copy take the block?
abbrev pub take_asks : State → Relay → List Question
take_asks s r =
    let bucket = s.bucket r.bucket in
    (6 asks up_member s bucket.backup) ∷ (14 asks takes s.settings.entries (backup_memory bucket) r.block) ∷ []
