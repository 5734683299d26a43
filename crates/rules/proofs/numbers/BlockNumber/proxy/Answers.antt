use mathlib.Core.Path.{refl}
use Rattle.rules.specs.Numbers.{proxy_of}
use Rattle.rules.proofs.numbers.BlockNumber.proxy.Goals as goal

pub returns : goal.returns
unfolding proxy_of
returns c = refl
