use mathlib.Core.Path.{ap, ◌∙◌}
use Prim.Native.Nat.{ℕ}
use native.Mathlib.Omega.{arith}
use Rattle.words.specs.Words.{words}
use Rattle.words.proofs.Laws.{length_words}
use Rattle.entries.specs.Entries.{copied_entries}
use Rattle.lent.proofs.MatchedCopies.{copy_saved}
use Rattle.lent.proofs.copies.save.Goals as goal

pub returns : goal.returns
returns c =
    let w = words c.args.copies.now in
    let k = c.args.settings in
    c.copy.ensures ∙ ap (λ (n : ℕ). copied_entries k.entries 0 n w) c.copy_words.ensures
    ∙ copy_saved k w (length_words c.args.copies.now ∙ omega (arith, c.requires.size))
