use mathlib.Core.Path.{◌≡◌}
use native.Mathlib.Omega.{arith}
use Rattle.words.specs.Words.{words}
use Rattle.sweep.proofs.Steps.{paste_self}
use Rattle.sweep.proofs.carry.Goals as goal

pub returns-else-to-from : goal.returns-else-to-from
returns-else-to-from c =
    let e : c.args.from ≡ c.args.to = omega arith in
    rw e (paste_self (words c.args.log.now) c.args.to c.args.n)
