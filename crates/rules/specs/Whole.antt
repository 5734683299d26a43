-- Whole: every place holds an up member; every bucket ready; nothing pending; every mapped key saved at two members. All up and ready: the first two of these.
use Rattle.std.specs.Prelude.{Bool}
use Rattle.lists.specs.Tests.{◌and◌, all_below, every}
use Rattle.rules.specs.Limits.{buckets}
use Rattle.rules.specs.State.{State}
use Rattle.rules.specs.Derived.{up_member, saved_twice, primary_memory, nothing_pending}

abbrev every_place_up : State → Bool
every_place_up s = all_below s.settings.places (λ p. up_member s (s.ids p))

unfoldable pub whole : State → Bool
whole s =
    let count = buckets s.settings in
    every_place_up s and all_below count (λ g. nothing_pending (s.bucket g))
    and all_below count (λ g. every (λ e. saved_twice s e.key) (primary_memory (s.bucket g)))

unfoldable pub all_up_and_ready : State → Bool
all_up_and_ready s = every_place_up s and all_below (buckets s.settings) (λ g. (s.bucket g).ready)
