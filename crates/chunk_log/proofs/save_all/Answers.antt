use borrow.Author.Rules.{rules}
use Rattle.words.specs.Words.{words}
use Rattle.lists.proofs.Runs.{below_of}
use Rattle.chunk_log.proofs.Steps.{tag_start, tagged, save_all_leaves}
use mathlib.Core.Path.{refl, ◌∙◌}
use Prim.Native.Nat.{◌+◌, ◌*◌}
use native.Mathlib.Omega.{arith}
use native.Mathlib.Numerals.{add-one}
use Rattle.chunk_log.proofs.save_all.Goals as goal

pub loop-i-init : goal.loop-i-init
loop-i-init c = tag_start c.args.chunks c.args.width c.args.log.now c.requires (λ _. 1)

pub loop-i-preserved : goal.loop-i-preserved
loop-i-preserved c =
    let i = c.loop-i.i in
    c.write.ensures
    ∙ rw (add-one i) (tagged c.args.chunks c.args.width c.args.log.now c.requires (λ _. 1) i 1 (2 + 2 * i) (words c.loop-i.log)
    (omega arith) refl refl c.loop-i.invariant)

pub returns : goal.returns
returns c =
    c.loop-i.invariant ∙ save_all_leaves c.args.chunks c.args.width c.args.log.now c.requires
    (below_of 256 c.args.log.now (λ i. search rules)) c.loop-i.i (omega arith)
