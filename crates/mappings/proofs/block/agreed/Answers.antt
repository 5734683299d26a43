use mathlib.Core.Path.{ap, ◌∙◌}
use Prim.Native.Nat.{ℕ}
use Rattle.words.specs.Words.{words}
use Rattle.layout.specs.Store.{agreed_in, decode}
use Rattle.lent.proofs.Buckets.{number_is}
use Rattle.mappings.proofs.block.agreed.Goals as goal

pub returns : goal.returns
returns c =
    let n = c.number in
    c.agreed.ensures
    ∙ ap (λ (g : ℕ). agreed_in ((decode (words c.args.store.now)).bucket g))
    (n.ensures.0 ∙ number_is c.args.settings c.args.store.now c.requires c.args.block.0)
