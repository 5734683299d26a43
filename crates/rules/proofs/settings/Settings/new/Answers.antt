use mathlib.Core.Path.{sym}
use Rattle.lists.specs.Tests.{◌and◌}
use Rattle.rules.specs.Limits.{in_limits, checked}
use Rattle.rules.proofs.settings.Settings.new.Goals as goal

pub returns-then-not-good : goal.returns-then-not-good
unfolding checked in_limits ◌and◌
returns-then-not-good c = rw (sym c.within.ensures, sym c.within-2.ensures, sym c.within-3.ensures, sym c.within-4.ensures, c.if-not-good.true)

pub returns : goal.returns
unfolding checked in_limits ◌and◌
returns c = rw (sym c.within.ensures, sym c.within-2.ensures, sym c.within-3.ensures, sym c.within-4.ensures, c.if-not-good.false)
