use native.Mathlib.Omega.{arith}
use Rattle.rules.specs.Event.{fields_brought}
use Rattle.text.proofs.RoundTrip.{well_formed}
use Rattle.print.proofs.Laws.{not_printed, is_printed, not_formed, is_formed, no_room, room_enough, kind_of}
use Rattle.print.proofs.print.Goals as goal

-- `print::print` meets its contract.

pub returns-in_err-n : goal.returns-in_err-n
returns-in_err-n c =
    let a = c.args in
    let e = fields_brought a.event.kind a.event.a a.event.b a.event.c a.«data».now in
    rw c.from_residual.ensures (not_printed a.size e a.line.now (not_formed a.size e a.line.now c.in_err-n.ensures))

pub returns-then-line-n : goal.returns-then-line-n
returns-then-line-n c =
    let a = c.args in
    let e = fields_brought a.event.kind a.event.a a.event.b a.event.c a.«data».now in
    let l = a.line.now in
    let f = is_formed a.size e l c.in_ok-n.n c.in_ok-n.ensures in
    not_printed a.size e l (no_room a.size e l f.0 (omega (arith, f.1)))

pub write_line-requires : goal.write_line-requires
write_line-requires c =
    let a = c.args in
    let v = a.event in
    let d = a.«data».now in
    let e = fields_brought v.kind v.a v.b v.c d in
    let f = is_formed a.size e a.line.now c.in_ok-n.n c.in_ok-n.ensures in
    let w = well_formed a.size e f.0 in
    let k = kind_of a.size v.kind v.a v.b v.c d in
    (rw k at w.least, rw k at w.most, omega (arith, f.1))

pub returns : goal.returns
returns c =
    let a = c.args in
    let e = fields_brought a.event.kind a.event.a a.event.b a.event.c a.«data».now in
    let l = a.line.now in
    let f = is_formed a.size e l c.in_ok-n.n c.in_ok-n.ensures in
    let w = c.write_line in
    is_printed a.size e l c.in_ok-n.n w.new.line (room_enough a.size e l f.0 (omega (arith, f.1))) f.1 w.ensures
