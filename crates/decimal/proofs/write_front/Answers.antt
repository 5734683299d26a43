use mathlib.Core.Path.{◌≡◌, refl, ◌∙◌}
use mathlib.Core.List.{◌++◌}
use Prim.Native.Nat.{◌+◌, ◌-◌, ◌/◌}
use native.Mathlib.Omega.{arith}
use borrow.Author.Rules.{rules}
use lib.ListN.{length, drop, set, length-set}
use Rattle.decimal.specs.Decimal.{decimal}
use Rattle.decimal.proofs.Laws.{decimal_least, width_small, width_2, width_two, write_two, write_last, write_last_two, write_done}
use Rattle.decimal.proofs.write_front.Goals as goal

-- `decimal::write_front` meets its contract.

pub overflow_sub-i : goal.overflow_sub-i
overflow_sub-i c = omega (arith, decimal_least c.args.number)

pub loop-x-init : goal.loop-x-init
loop-x-init c =
    let a = c.args in
    let least = decimal_least a.number in
    let e : c.width-n.result - 1 + 1 ≡ length (decimal a.number) = omega arith in
    (search rules, refl, e, search rules, rw e)

pub overflow_sub-area : goal.overflow_sub-area
overflow_sub-area c =
    let l = c.loop-x in
    omega (arith, decimal_least (l.x / 100), width_two l.x c.loop-x-test.true l.invariant.0)

pub bounds-area-i-in-loop-x : goal.bounds-area-i-in-loop-x
bounds-area-i-in-loop-x c =
    let l = c.loop-x in
    let n = length-set l.area l.i c.last_digit.result in
    omega arith

pub overflow_sub-i-in-loop-x : goal.overflow_sub-i-in-loop-x
overflow_sub-i-in-loop-x c =
    let l = c.loop-x in
    omega (arith, decimal_least (l.x / 100), width_two l.x c.loop-x-test.true l.invariant.0)

pub loop-x-preserved : goal.loop-x-preserved
loop-x-preserved c =
    let l = c.loop-x in
    let w = width_two l.x c.loop-x-test.true l.invariant.0 in
    let least = decimal_least (l.x / 100) in
    let e : l.i - 2 + 1 ≡ l.i - 1 = omega arith in
    let one = set l.area l.i c.last_digit.result in
    let kept : length (set one (l.i - 1) c.last_digit-in-loop-x.result) ≡ length l.area =
    length-set one (l.i - 1) c.last_digit-in-loop-x.result ∙ length-set l.area l.i c.last_digit.result in (
      omega arith,
      kept ∙ l.invariant.1,
      omega arith,
      omega arith,
      rw (
        e,
        c.last_digit.ensures,
        c.last_digit-in-loop-x.ensures,
        write_two l.x l.i l.area c.loop-x-test.true l.invariant.0 (omega arith) (omega arith),
      )
          l.invariant.4,
    )

pub bounds-area-1 : goal.bounds-area-1
bounds-area-1 c =
    let l = c.loop-x in
    omega (arith, width_2 l.x (omega arith) (omega arith))

pub bounds-area-0 : goal.bounds-area-0
bounds-area-0 c =
    let l = c.loop-x in
    let n = length-set l.area 1 c.last_digit-then-x-ge10.result in
    omega (arith, decimal_least l.x)

pub shape_of-area-then-x-ge10 : goal.shape_of-area-then-x-ge10
shape_of-area-then-x-ge10 c =
    let l = c.loop-x in
    let one = set l.area 1 c.last_digit-then-x-ge10.result in
    length-set one 0 c.last_digit-then-x-ge10-2.result ∙ length-set l.area 1 c.last_digit-then-x-ge10.result ∙ l.invariant.1

pub returns-then-x-ge10 : goal.returns-then-x-ge10
returns-then-x-ge10 c =
    let a = c.args in
    let l = c.loop-x in
    let more = c.if-x-ge10.true in
    let small = c.loop-x-test.false in
    let two = width_2 l.x more small in
    let e : l.i + 1 ≡ 2 = omega arith in
    let text = set (set l.area 1 c.last_digit-then-x-ge10.result) 0 c.last_digit-then-x-ge10-2.result in
    let whole : text ≡ decimal a.number ++ drop (length (decimal a.number)) a.area.now =
    rw (c.last_digit-then-x-ge10.ensures, c.last_digit-then-x-ge10-2.ensures, write_last_two l.x l.area more small (omega arith)) (rw e at l.invariant.4) in
    (search rules, write_done (decimal a.number) a.area.now text whole)

pub bounds-area-0-2 : goal.bounds-area-0-2
bounds-area-0-2 c =
    let l = c.loop-x in
    omega (arith, decimal_least l.x)

pub shape_of-area : goal.shape_of-area
shape_of-area c =
    length-set c.loop-x.area 0 c.last_digit-2.result ∙ c.loop-x.invariant.1

pub returns : goal.returns
returns c =
    let a = c.args in
    let l = c.loop-x in
    let small = c.if-x-ge10.false in
    let one = width_small l.x small in
    let e : l.i + 1 ≡ 1 = omega arith in
    let whole : set l.area 0 c.last_digit-2.result ≡ decimal a.number ++ drop (length (decimal a.number)) a.area.now =
    rw (c.last_digit-2.ensures, write_last l.x l.area small (omega arith)) (rw e at l.invariant.4) in
    (search rules, write_done (decimal a.number) a.area.now (set l.area 0 c.last_digit-2.result) whole)
