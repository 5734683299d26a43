use mathlib.Core.Path.{◌≡◌}
use native.Mathlib.Omega.{arith}
use Rattle.print.proofs.Laws.{numbers_0, numbers_1, numbers_2, numbers_3}
use Rattle.print.proofs.put_numbers.Goals as goal

-- `print::put_numbers` meets its contract.

pub returns-then-n-eq0 : goal.returns-then-n-eq0
returns-then-n-eq0 c =
    let a = c.args in
    let l = a.line.now in
    numbers_0 a.n a.event.a a.event.b a.event.c a.at l c.if-n-eq0.true

pub returns-then-n-eq1 : goal.returns-then-n-eq1
returns-then-n-eq1 c =
    let a = c.args in
    let l = a.line.now in
    let p = c.put_number-second in
    numbers_1 a.n a.event.a a.event.b a.event.c a.at l p.result p.new.line p.ensures.0 p.ensures.1 c.if-n-eq1.true

pub returns-then-n-eq2 : goal.returns-then-n-eq2
returns-then-n-eq2 c =
    let a = c.args in
    let l = a.line.now in
    let p = c.put_number-second in
    let q = c.put_number-third in
    numbers_2 a.n a.event.a a.event.b a.event.c a.at l p.result p.new.line p.ensures.0 p.ensures.1 q.result q.new.line q.ensures.0
    q.ensures.1 c.requires.1 c.if-n-eq2.true

pub returns : goal.returns
returns c =
    let a = c.args in
    let l = a.line.now in
    let p = c.put_number-second in
    let q = c.put_number-third in
    let r = c.put_number in
    let pre = c.requires in
    let t : a.n ≡ 3 = omega (
      arith,
      c.if-n-eq0,
      c.if-n-eq1,
      c.if-n-eq2,
    ) in
    numbers_3 a.n a.event.a a.event.b a.event.c a.at l p.result p.new.line p.ensures.0 p.ensures.1 q.result q.new.line q.ensures.0
    q.ensures.1 pre.1 t r.result r.new.line r.ensures.0 r.ensures.1
