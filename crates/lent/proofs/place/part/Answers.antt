use Prim.Native.Nat.{◌+◌, ◌*◌}
use native.Mathlib.Omega.{arith}
use Rattle.layout.specs.Layout.{place_at, place_words}
use Rattle.layout.proofs.Lent.{lent}
use borrow.Author.Rules.{rules}
use Rattle.lent.proofs.place.part.Goals as goal

pub returns : goal.returns
returns c =
    let at = c.place_at-at.result in
    let n = c.place_words.result in
    record {
      size = search rules;
      same = lent c.args.store.now (8 * at) (8 * at + 8 * n) (place_at c.args.settings c.args.place) (place_words c.args.settings)
          (omega arith) (omega arith) (omega arith);
    }
