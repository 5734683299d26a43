use mathlib.Core.Path.{◌≡◌, refl, ap, ◌∙◌}
use Prim.Native.Nat.{ℕ}
use native.Mathlib.Omega.{arith}
use lib.ListN.{length}
use Rattle.words.specs.Words.{words}
use Rattle.words.proofs.Laws.{room}
use Rattle.rules.specs.Limits.{buckets}
use Rattle.collect.specs.Marked.{marks, named_first}
use Rattle.collect.proofs.Marking.{marks_log, tables_start, table_still, tables_turn}
use borrow.Author.Rules.{rules}
use Rattle.collect.proofs.marks.mark_tables.Goals as goal

pub loop-table-init : goal.loop-table-init
loop-table-init c =
    let a = c.args in (
      refl,
      tables_start a.settings a.at (words a.store.now) (length a.store.now) (room _ _ c.requires.log_in.inside) c.requires.log_in a.tables.now
          c.requires.tables_in,
    )

pub mark_named-requires : goal.mark_named-requires
mark_named-requires c =
    let a = c.args in
    let ws = words a.store.now in
    let h = room _ _ c.requires.log_in.inside in
    rw (c.loop-table.invariant.0, c.loop-table.invariant.1) record {
      log_in = marks_log a.settings a.at ws (length a.store.now) h c.requires.log_in _;
      table_in = table_still a.settings a.at ws (length a.store.now) h c.requires.log_in a.tables.now c.requires.tables_in c.loop-table.table-index c.loop-table.table-index
          (omega arith);
    }

pub loop-table-preserved : goal.loop-table-preserved
loop-table-preserved c =
    let a = c.args in (
      search rules,
      tables_turn a.settings a.at (words a.store.now) (length a.store.now) (room _ _ c.requires.log_in.inside) c.requires.log_in a.tables.now c.requires.tables_in
          c.loop-table.table-index _ _ (omega arith) c.loop-table.invariant.1 c.mark_named.ensures,
    )

pub returns : goal.returns
returns c =
    let a = c.args in
    let ws = words a.store.now in
    let e : c.loop-table.table-index ≡ buckets a.settings = omega arith in
    c.loop-table.invariant.1 ∙ ap (λ (n : ℕ). marks a.settings a.at (named_first ws a.tables.now n) ws) e
