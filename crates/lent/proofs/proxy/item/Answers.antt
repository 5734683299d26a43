use mathlib.Core.Path.{ap, ◌∙◌}
use mathlib.Core.List.{List}
use Rattle.rules.specs.Entries.{Entry, key_for}
use Rattle.lent.proofs.proxy.item.Goals as goal

pub key_for-requires : goal.key_for-requires
key_for-requires c = c.items.ensures.sorted

pub returns : goal.returns
returns c =
    c.key_for.ensures ∙ ap (λ (l : List Entry). key_for l c.args.block.0) c.items.ensures.same
