use mathlib.Core.Path.{sym, ◌∙◌}
use Rattle.lists.proofs.Tests.{clash}
use Rattle.words.specs.Words.{words}
use Rattle.layout.specs.Store.{decode}
use Rattle.mappings.proofs.Agreement.{disk_differs, memory_differs, last_decides}
use Rattle.mappings.proofs.block.agree.Goals as goal
use Rattle.mappings.proofs.block.agree.Goals.{then-eq, else-eq}

pub returns-then-eq-2 : goal.returns-then-eq-2
returns-then-eq-2 c =
    let k = (decode (words c.args.store.now)).bucket c.args.bucket in
    elim c.if-eq.branch [
      | then-eq w ↦ c.eq-then-eq-2.ensures ∙ last_decides k _ c.requires.2 c.args.block.0 _ _ c.in_memory-key.ensures c.on_disk.ensures _ w.in_memory.ensures
          (sym c.eq.ensures ∙ w.if-eq.true) (sym w.eq-then-eq.ensures ∙ sym w.value-is ∙ c.if-eq-2.true) _ c.on_disk-then-eq-2.ensures
      | else-eq w ↦ clash w.if-eq.false (sym w.value-is ∙ c.if-eq-2.true)
    ]

pub returns-else-eq-2 : goal.returns-else-eq-2
returns-else-eq-2 c =
    let k = (decode (words c.args.store.now)).bucket c.args.bucket in
    c.if-eq-2.false ∙ sym (elim c.if-eq.branch [
      | then-eq w ↦ memory_differs k _ c.requires.2 c.args.block.0 _ _ c.in_memory-key.ensures c.on_disk.ensures _ w.in_memory.ensures
          (sym w.eq-then-eq.ensures ∙ sym w.value-is ∙ c.if-eq-2.false)
      | else-eq w ↦ disk_differs k _ c.requires.2 c.args.block.0 _ _ c.in_memory-key.ensures c.on_disk.ensures (sym c.eq.ensures ∙ w.if-eq.false)
    ])
