use mathlib.Core.Path.{ap, ◌∙◌}
use mathlib.Core.List.{List}
use Rattle.rules.specs.Entries.{Entry, has}
use Rattle.lent.proofs.proxy.has_item.Goals as goal

pub has-requires : goal.has-requires
has-requires c = c.items.ensures.sorted

pub returns : goal.returns
returns c =
    c.has.ensures ∙ ap (λ (l : List Entry). has l c.args.block.0) c.items.ensures.same
