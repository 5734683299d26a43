use borrow.Author.Rules.{rules}
use mathlib.Core.Path.{◌≡◌, ap, ◌∙◌}
use native.Mathlib.Omega.{arith}
use lib.Dec.{eqb}
use lib.ListN.{length}
use Rattle.lists.proofs.Runs.{below_of}
use Rattle.words.specs.Words.{words}
use Rattle.chunk_log.proofs.Steps.{sizes}
use Rattle.sweep.specs.Marks.{swept}
use Rattle.sweep.proofs.Marks.{log_marked, keep_saved_leaves}
use Rattle.sweep.proofs.keep_saved.Goals as goal

pub keep_marked-requires : goal.keep_marked-requires
keep_marked-requires c =
    let m = c.mark_saved in
    let v = words c.args.log.now in
    let e : length m.new.log ≡ length c.args.log.now = omega arith in
    rw (m.ensures, e) (log_marked c.args.chunks c.args.width v (length c.args.log.now)
    (sizes c.args.chunks c.args.width c.args.log.now c.requires) c.requires (omega arith) (λ x. eqb x.saved 1))

pub returns : goal.returns
returns c =
    c.keep_marked.ensures ∙ ap (swept c.args.chunks c.args.width) c.mark_saved.ensures ∙ keep_saved_leaves
    c.args.chunks c.args.width c.args.log.now c.requires (below_of 256 c.args.log.now (λ i. search rules))
