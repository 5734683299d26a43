use mathlib.Core.Path.{sym}
use lib.Seq.{length-take-le}
use Rattle.trace.proofs.Goes.{close_fits}
use Rattle.trace.proofs.finish.Goals as goal

pub slice_bounds-write_all-end : goal.slice_bounds-write_all-end
slice_bounds-write_all-end g c = close_fits c.close-last.ensures

pub slice_bounds-write_all-end-2 : goal.slice_bounds-write_all-end-2
slice_bounds-write_all-end-2 g c =
    let w = c.close-last in sym (length-take-le w.result w.new.out (close_fits w.ensures))
