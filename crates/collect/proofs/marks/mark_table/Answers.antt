use mathlib.Core.Path.{◌≡◌, refl, ap, ◌∙◌}
use Prim.Native.Nat.{ℕ}
use native.Mathlib.Omega.{arith}
use lib.ListN.{length, get_or}
use Rattle.words.specs.Words.{words}
use Rattle.words.proofs.Laws.{room}
use Rattle.named.specs.Tables.{names_first}
use Rattle.collect.specs.Marked.{marks}
use Rattle.collect.proofs.Marking.{marks_log, rows_start, rows_turn}
use borrow.Author.Rules.{rules}
use Rattle.collect.proofs.marks.mark_table.Goals as goal

pub loop-i-init : goal.loop-i-init
loop-i-init c = (
  refl,
  rows_start c.args.settings c.args.at (words c.args.store.now) (length c.args.store.now) (room _ _ c.requires.log_in.inside) c.requires.log_in
      c.args.from c.requires.table_in,
)

pub mark_key-requires : goal.mark_key-requires
mark_key-requires c =
    rw (c.loop-i.invariant.0, c.loop-i.invariant.1)
    (marks_log c.args.settings c.args.at (words c.args.store.now) (length c.args.store.now) (room _ _ c.requires.log_in.inside) c.requires.log_in _)

pub loop-i-preserved : goal.loop-i-preserved
loop-i-preserved c = (
  search rules,
  rows_turn c.args.settings c.args.at (words c.args.store.now) (length c.args.store.now) (room _ _ c.requires.log_in.inside) c.requires.log_in
      c.args.from c.requires.table_in c.loop-i.i _ _ c.read-key.result (omega (arith, c.requires.table_in.few)) c.loop-i.invariant.1 c.read-key.ensures
      c.mark_key.ensures,
)

pub returns : goal.returns
returns c =
    let ws = words c.args.store.now in
    let e : c.loop-i.i ≡ get_or ws c.args.from 0 = omega (arith, c.read-n.ensures) in
    c.loop-i.invariant.1 ∙ ap (λ (n : ℕ). marks c.args.settings c.args.at (names_first ws c.args.from n) ws) e
