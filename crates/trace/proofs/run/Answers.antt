use mathlib.Core.Path.{refl, sym, ◌∙◌}
use native.Mathlib.Omega.{arith}
use lib.Seq.{length-take-le}
use Rattle.trace.proofs.Goes.{ready_start, read_none, header_fits}
use Rattle.trace.proofs.run.Goals as goal

pub slice_bounds-write_all-end : goal.slice_bounds-write_all-end
slice_bounds-write_all-end g c = let w = c.write_header-first in header_fits _ w.ensures.0 w.ensures.1

pub slice_bounds-write_all-end-2 : goal.slice_bounds-write_all-end-2
slice_bounds-write_all-end-2 g c =
    let w = c.write_header-first in sym (length-take-le w.result w.new.area (header_fits _ w.ensures.0 w.ensures.1))

pub loop-turn-init : goal.loop-turn-init
loop-turn-init g c = (ready_start _ _ c.requires.0 c.requires.1, read_none _ _, refl, refl, refl, refl, omega arith)

pub read_some-requires : goal.read_some-requires
read_some-requires g c =
    let l = c.loop-turn.invariant in (
      l.0,
      l.1,
      omega (arith, l.5, c.requires.3, c.write_header-first.auto.area),
      l.4 ∙ c.requires.2,
      omega (arith, l.6),
    )

pub loop-turn-preserved : goal.loop-turn-preserved
loop-turn-preserved g c =
    let l = c.loop-turn.invariant in
    let r = c.read_some in
    let e = rw c.in-Some.is at c.in_ok-next.ensures.ok in
    (e.0, e.1, r.auto.room ∙ l.2, r.auto.line ∙ l.3, r.auto.input ∙ l.4, r.auto.out ∙ l.5, omega (arith, e.2, l.6))

pub finish-requires : goal.finish-requires
finish-requires g c =
    let l = c.loop-turn.invariant in
    let e = rw c.in_default.is at c.in_ok-next.ensures.ok in
    (e.0, omega (arith, c.read_some.auto.out, l.5, c.requires.3, c.write_header-first.auto.area), omega (arith, l.6))

pub finish-requires-2 : goal.finish-requires-2
finish-requires-2 g c =
    let l = c.loop-turn.invariant in
    (l.0, omega (arith, l.5, c.requires.3, c.write_header-first.auto.area), omega (arith, l.6))
