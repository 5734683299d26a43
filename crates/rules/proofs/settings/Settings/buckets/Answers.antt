use mathlib.Core.Path.{refl}
use Rattle.rules.specs.Limits.{buckets}
use Rattle.rules.proofs.settings.Settings.buckets.Goals as goal

pub returns : goal.returns
unfolding buckets
returns c = refl
