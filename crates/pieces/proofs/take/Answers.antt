use mathlib.Core.List.{◌++◌}
use Prim.Native.Nat.{◌+◌, ◌-◌}
use native.Mathlib.Omega.{arith}
use lib.ListN.{length, take, drop, length-drop}
use lib.Seq.{length-take-le}
use Rattle.pieces.proofs.Pieces.{Loop, loop_none, loop_more, by_zero}
use Rattle.pieces.proofs.take.Goals as goal

-- `pieces::take` meets its contract.

pub loop-read-init : goal.loop-read-init
loop-read-init c = loop_none c.args.trace _ _ _ _ c.requires.0

pub overflow_sub-out : goal.overflow_sub-out
overflow_sub-out c = omega (arith, c.loop-read.invariant.fits, c.loop-read.invariant.out_same)

pub shape_of-room-then-out-written-lt-LONGEST : goal.shape_of-room-then-out-written-lt-LONGEST
shape_of-room-then-out-written-lt-LONGEST c = c.loop-read.invariant.room_same

pub shape_of-line-then-out-written-lt-LONGEST : goal.shape_of-line-then-out-written-lt-LONGEST
shape_of-line-then-out-written-lt-LONGEST c = c.loop-read.invariant.line_same

pub shape_of-out-then-out-written-lt-LONGEST : goal.shape_of-out-then-out-written-lt-LONGEST
shape_of-out-then-out-written-lt-LONGEST c = c.loop-read.invariant.out_same

pub returns-then-out-written-lt-LONGEST : goal.returns-then-out-written-lt-LONGEST
returns-then-out-written-lt-LONGEST c =
    let h = c.loop-read.invariant in
    record {
      takes = h.takes;
      moves = λ _. by_zero c.loop-read.read
          (λ z. omega (arith, c.if-out-written-lt-LONGEST.true, h.fresh z, h.out_same, c.requires.1));
    }

pub slice_bounds-take_piece-count : goal.slice_bounds-take_piece-count
slice_bounds-take_piece-count c = omega (arith, c.loop-read.invariant.fits, c.loop-read.invariant.out_same)

pub slice_bounds-take_piece-start : goal.slice_bounds-take_piece-start
slice_bounds-take_piece-start c = omega (arith, c.loop-read.invariant.fits, c.loop-read.invariant.out_same)

pub slice_bounds-take_piece-end : goal.slice_bounds-take_piece-end
slice_bounds-take_piece-end c = omega (arith, c.loop-read.invariant.fits, c.loop-read.invariant.out_same)

pub slice_bounds-take_piece-count-in-loop-read : goal.slice_bounds-take_piece-count-in-loop-read
slice_bounds-take_piece-count-in-loop-read c = omega (arith, c.loop-read.invariant.fits, c.loop-read.invariant.out_same)

pub slice_bounds-take_piece-start-in-loop-read : goal.slice_bounds-take_piece-start-in-loop-read
slice_bounds-take_piece-start-in-loop-read c =
    omega (arith, c.loop-read.invariant.fits, c.loop-read.invariant.out_same)

pub slice_bounds-take_piece-end-in-loop-read : goal.slice_bounds-take_piece-end-in-loop-read
slice_bounds-take_piece-end-in-loop-read c =
    omega (arith, c.loop-read.invariant.fits, c.loop-read.invariant.out_same)

pub take_piece-next-requires : goal.take_piece-next-requires
take_piece-next-requires c =
    let l = c.loop-read in
    let lent = length-take-le (length l.out - l.written) (drop l.written l.out) (omega (arith, length-drop l.written l.out)) in (
      l.invariant.takes.ready,
      omega (arith, c.if-out-written-lt-LONGEST.false),
      omega (arith, l.invariant.takes.number, c.loop-read-test.true, c.requires.2),
    )

pub overflow_add-read : goal.overflow_add-read
overflow_add-read c =
    let turned : let a = c.args in
    let l = c.loop-read in
    let p = c.take_piece-next in
    Loop a.trace a.room.now a.line.now a.input.now a.out.now p.new.room p.new.line
    (take l.written l.out ++ (p.new.out ++ drop (length l.out - l.written) (drop l.written l.out))) p.result.trace
    (l.read + p.result.read) (l.written + p.result.written) = let a = c.args in
    let l = c.loop-read in
    let p = c.take_piece-next in
    loop_more a.trace a.room.now a.line.now a.input.now a.out.now l.room l.line l.out l.now l.read l.written l.invariant
    c.loop-read-test.true p.result p.new.room p.new.line p.new.out p.auto.room p.auto.line p.auto.out
    p.ensures in
    record { fits = omega (arith, (turned).takes.within) }

pub overflow_add-written : goal.overflow_add-written
overflow_add-written c =
    let turned : let a = c.args in
    let l = c.loop-read in
    let p = c.take_piece-next in
    Loop a.trace a.room.now a.line.now a.input.now a.out.now p.new.room p.new.line
    (take l.written l.out ++ (p.new.out ++ drop (length l.out - l.written) (drop l.written l.out))) p.result.trace
    (l.read + p.result.read) (l.written + p.result.written) = let a = c.args in
    let l = c.loop-read in
    let p = c.take_piece-next in
    loop_more a.trace a.room.now a.line.now a.input.now a.out.now l.room l.line l.out l.now l.read l.written l.invariant
    c.loop-read-test.true p.result p.new.room p.new.line p.new.out p.auto.room p.auto.line p.auto.out
    p.ensures in
    let good = c.well_formed in
    record { fits = omega (arith, (turned).fits) }

pub loop-read-smaller : goal.loop-read-smaller
loop-read-smaller c =
    let l = c.loop-read in
    let p = c.take_piece-next in
    let a = c.args in
    let rest = length-take-le (length a.input.now - l.read) (drop l.read a.input.now) (omega (arith, length-drop l.read a.input.now)) in
    let more = c.loop-read-test.true in
    omega (arith, p.ensures.moves (omega arith))

pub loop-read-preserved : goal.loop-read-preserved
loop-read-preserved c =
    let turned : let a = c.args in
    let l = c.loop-read in
    let p = c.take_piece-next in
    Loop a.trace a.room.now a.line.now a.input.now a.out.now p.new.room p.new.line
    (take l.written l.out ++ (p.new.out ++ drop (length l.out - l.written) (drop l.written l.out))) p.result.trace
    (l.read + p.result.read) (l.written + p.result.written) = let a = c.args in
    let l = c.loop-read in
    let p = c.take_piece-next in
    loop_more a.trace a.room.now a.line.now a.input.now a.out.now l.room l.line l.out l.now l.read l.written l.invariant
    c.loop-read-test.true p.result p.new.room p.new.line p.new.out p.auto.room p.auto.line p.auto.out
    p.ensures in
    turned

pub shape_of-room : goal.shape_of-room
shape_of-room c = c.loop-read.invariant.room_same

pub shape_of-line : goal.shape_of-line
shape_of-line c = c.loop-read.invariant.line_same

pub shape_of-out : goal.shape_of-out
shape_of-out c = c.loop-read.invariant.out_same

pub returns : goal.returns
returns c =
    let h = c.loop-read.invariant in
    record { takes = h.takes; moves = λ m. omega (arith, c.loop-read-test.false) }
