use mathlib.Core.Path.{refl, sym, ◌∙◌}
use native.Mathlib.Omega.{arith}
use Rattle.lists.specs.Tests.{every}
use Rattle.reads.proofs.Zeros.{zeros_short, zeros_not, zeros_more, zeros_yes}
use Rattle.reads.proofs.is_zero_block.Goals as goal

pub returns-then-bytes-size : goal.returns-then-bytes-size
returns-then-bytes-size c = sym (zeros_short c.args.size c.args.bytes.now c.if-bytes-size.true)

pub loop-i-init : goal.loop-i-init
unfolding every
loop-i-init c = refl

pub returns-then-read-ne0 : goal.returns-then-read-ne0
returns-then-read-ne0 c =
    sym (zeros_not c.args.size c.args.bytes.now c.loop-i.i (omega arith) (λ e. c.if-read-ne0.true (c.read.ensures ∙ e)))

pub loop-i-preserved : goal.loop-i-preserved
loop-i-preserved c =
    zeros_more c.args.size c.args.bytes.now c.loop-i.i (omega arith) (sym c.read.ensures ∙ c.if-read-ne0.false) c.loop-i.invariant

pub returns : goal.returns
returns c =
    let old = c.loop-i in
    sym (zeros_yes c.args.size c.args.bytes.now (omega arith) old.i (omega arith) old.invariant)
