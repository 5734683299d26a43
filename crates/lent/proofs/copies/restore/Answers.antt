use mathlib.Core.Path.{ap, ◌∙◌}
use Prim.Native.Nat.{ℕ}
use native.Mathlib.Omega.{arith}
use Rattle.words.specs.Words.{words}
use Rattle.words.proofs.Laws.{length_words}
use Rattle.entries.specs.Entries.{copied_entries}
use Rattle.lent.proofs.MatchedCopies.{copy_restored}
use Rattle.lent.proofs.copies.restore.Goals as goal

pub copy-requires : goal.copy-requires
copy-requires c =
    record {
      first_in = omega (arith, c.requires.size);
      second_in = omega (arith, c.requires.size);
      few = rw c.copy_words.ensures c.requires.disk;
    }

pub returns : goal.returns
returns c =
    let w = words c.args.copies.now in
    let k = c.args.settings in
    c.copy.ensures ∙ ap (λ (n : ℕ). copied_entries k.entries n 0 w) c.copy_words.ensures
    ∙ copy_restored k w (length_words c.args.copies.now ∙ omega (arith, c.requires.size))
