use Prim.Native.Nat.{◌+◌, ◌*◌}
use native.Mathlib.Omega.{arith}
use Rattle.layout.proofs.Lent.{lent}
use borrow.Author.Rules.{rules}
use Rattle.lent.proofs.place.words_of.Goals as goal

pub returns : goal.returns
returns c =
    let a = c.args in
    let whole = c.part-whole.result.now in
    record {
      whole = whole;
      of_place = c.part-whole.ensures;
      size = search rules;
      same = lent whole (8 * a.at) (8 * a.at + 8 * a.count) a.at a.count (omega arith) (omega arith) (omega arith);
    }
