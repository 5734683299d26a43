use mathlib.Core.Path.{sym}
use native.Mathlib.Omega.{arith}
use lib.Seq.{length-take-le}
use Rattle.pieces.proofs.Pieces.{closes_line, closes_opening, closes_quiet}
use Rattle.pieces.proofs.close.Goals as goal

-- `pieces::close` meets its contract.

pub returns-in-Opening : goal.returns-in-Opening
returns-in-Opening c =
    let a = c.args in
    let w = c.write_answer in
    closes_opening a.trace a.room.now a.line.now a.out.now c.if-held-eq0.true c.in-Opening.is w.result
    w.new.area
    w.ensures.0 w.ensures.1

pub returns-then-held-eq0 : goal.returns-then-held-eq0
returns-then-held-eq0 c =
    let a = c.args in
    closes_quiet a.trace a.room.now a.line.now a.out.now c.if-held-eq0.true
    c.in_default.not-Opening

pub slice_bounds-take_line-end : goal.slice_bounds-take_line-end
slice_bounds-take_line-end c =
    sym (length-take-le c.args.trace.held c.args.line.now (omega (arith, c.requires.0.line_size, c.requires.0.held)))

pub returns : goal.returns
returns c =
    let a = c.args in
    let w = c.take_line-said in
    closes_line a.trace a.room.now a.line.now a.out.now c.requires.0 c.if-held-eq0.false w.result w.new.room w.new.out
    w.ensures
