use mathlib.Core.Path.{sym, ap, ◌∙◌}
use lib.ListN.{length}
use Rattle.words.specs.Words.{words}
use Rattle.rules.specs.Limits.{max_items}
use Rattle.layout.specs.Contents.{entry_row}
use Rattle.entries.proofs.Tables.{count_is}
use Rattle.lent.proofs.proxy.item_count.Goals as goal

pub returns : goal.returns
returns c =
    let items = c.items in
    c.read.ensures ∙ sym (count_is entry_row max_items (words items.result.now)) ∙ ap length items.ensures.same
