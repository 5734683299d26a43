use mathlib.Core.Path.{refl, sym, ◌∙◌}
use native.Mathlib.Omega.{arith}
use lib.Seq.{length-take-le}
use Rattle.trace.proofs.Goes.{going_none, going_more, going_left, going_on, going_some, written_fits, on_any}
use Rattle.trace.proofs.take_all.Goals as goal

pub loop-read-init : goal.loop-read-init
loop-read-init g c = (going_none c.args.trace _ _ _ c.requires.0, refl, refl, refl)

pub take-taken-requires : goal.take-taken-requires
take-taken-requires g c =
    let l = c.loop-read in (
      l.invariant.0.ready,
      omega (arith, l.invariant.3, c.requires.1),
      omega (arith, l.invariant.0.number, l.invariant.0.within, going_left c.args.input.now l.read c.loop-read-test.true, c.requires.2),
    )

pub slice_bounds-write_all-end : goal.slice_bounds-write_all-end
slice_bounds-write_all-end g c = written_fits c.take-taken.ensures

pub slice_bounds-write_all-end-in-loop-read : goal.slice_bounds-write_all-end-in-loop-read
slice_bounds-write_all-end-in-loop-read g c =
    let p = c.take-taken in sym (length-take-le p.result.written p.new.out (written_fits p.ensures))

pub loop-read-smaller : goal.loop-read-smaller
loop-read-smaller g c =
    let left = going_left c.args.input.now c.loop-read.read c.loop-read-test.true in
    omega (arith, c.take-taken.ensures.moves (omega arith))

pub loop-read-preserved : goal.loop-read-preserved
loop-read-preserved g c =
    let l = c.loop-read in
    let p = c.take-taken in (
      going_more c.args.trace c.args.room.now c.args.line.now c.args.input.now l.room l.line l.now l.read l.invariant.0 l.out p.result
          p.new.room p.new.line p.new.out p.ensures,
      p.auto.room ∙ l.invariant.1,
      p.auto.line ∙ l.invariant.2,
      p.auto.out ∙ l.invariant.3,
    )

pub returns-in_err-write_all-clause-err : goal.returns-in_err-write_all-clause-err
returns-in_err-write_all-clause-err g c =
    let l = c.loop-read in
    let p = c.take-taken in
    on_any _ (going_some c.args.trace c.args.room.now c.args.line.now c.args.input.now _ _ _ _
    (going_more c.args.trace c.args.room.now c.args.line.now c.args.input.now l.room l.line l.now l.read l.invariant.0 l.out p.result
    p.new.room p.new.line p.new.out p.ensures))

pub returns-clause-ok : goal.returns-clause-ok
returns-clause-ok g c =
    let l = c.loop-read in
    going_on c.args.trace c.args.room.now c.args.line.now c.args.input.now l.room l.line l.now l.read l.invariant.0 (omega (arith, c.loop-read-test.false))
