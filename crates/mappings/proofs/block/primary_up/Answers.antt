use mathlib.Core.Path.{ap, ◌∙◌}
use Rattle.words.specs.Words.{words}
use Rattle.rules.specs.Derived.{up_member}
use Rattle.layout.specs.Contents.{Agreed}
use Rattle.layout.specs.Store.{decode}
use Rattle.mappings.proofs.block.primary_up.Goals as goal

pub returns : goal.returns
returns c =
    c.up_member.ensures ∙ ap (λ (a : Agreed). up_member (decode (words c.args.store.now)) a.primary) c.agreed.ensures
