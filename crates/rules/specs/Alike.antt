-- Alike: same settings, view, members and, for each bucket, the same blocks and keys in the primary's memory. (Copies are sorted, so the same entries.)
use Rattle.std.specs.Prelude.{Bool, true, false, not, suc, eqb}
use Rattle.lists.specs.Tests.{◌and◌, all_below}
use Rattle.rules.specs.declared.settings.Settings.{Settings}
use Rattle.rules.specs.Limits.{buckets, max_id}
use Rattle.rules.specs.State.{State}
use Rattle.rules.specs.Derived.{primary_memory}
use Rattle.rules.specs.Sound.{same_entries}

unfoldable pub same_flag : Bool → Bool → Bool
same_flag true b = b
same_flag false b = not b

unfoldable pub same_settings : Settings → Settings → Bool
same_settings one other =
    eqb one.places other.places and eqb one.size other.size and eqb one.entries other.entries and eqb one.chunks other.chunks

unfoldable pub alike : State → State → Bool
alike s other =
    same_settings s.settings other.settings and eqb s.view other.view
    and all_below (suc max_id) (λ i. same_flag (s.bricks.member i) (other.bricks.member i))
    and all_below (buckets s.settings) (λ g. same_entries (primary_memory (s.bucket g)) (primary_memory (other.bucket g)))
