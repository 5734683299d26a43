use mathlib.Core.Path.{ap, ◌∙◌}
use Rattle.words.specs.Words.{words}
use Rattle.rules.specs.Entries.{has}
use Rattle.layout.specs.Contents.{Agreed}
use Rattle.layout.specs.Store.{decode}
use Rattle.mappings.proofs.block.waits.Goals as goal

pub returns : goal.returns
returns c =
    c.has.ensures
    ∙ ap (λ (a : Agreed). has ((decode (words c.args.store.now)).bricks.buffer a.primary) c.args.block.0) c.agreed.ensures
