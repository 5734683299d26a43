use mathlib.Core.Path.{◌≡◌}
use mathlib.Core.Bool.{false}
use Prim.Native.Nat.{◌*◌}
use native.Mathlib.Omega.{arith}
use lib.ListN.{length}
use borrow.Author.Rules.{rules}
use Rattle.rules.specs.Limits.{buckets}
use Rattle.layout.specs.Contents.{blank_copies}
use Rattle.layout.specs.Layout.{copies_codec, copies_words}
use Rattle.layout.proofs.Each.{all_changed}
use Rattle.lent.specs.Parts.{matched}
use Rattle.lent.proofs.MatchedCopies.{each_fits}
use Rattle.lent.proofs.copies.restore_all.Goals as goal

pub each_part-requires-clause-callable : goal.each_part-requires-clause-callable
each_part-requires-clause-callable c = λ i x l e.
    let fits = each_fits c.args.settings c.args.copies.now c.requires c.copies_words.result i c.copies_words.ensures (omega (arith, c.buckets.ensures)) x.now e in
    search rules

pub returns : goal.returns
returns c =
    let t = c.args.settings in
    let long : length c.args.copies.now ≡ 8 * (buckets t * copies_words t) = omega (arith, c.requires.size) in
    all_changed (copies_codec t) (buckets t) c.args.copies.now c.each_part.new.s long c.each_part.auto.s c.copies_words.result c.buckets.result
    c.copies_words.ensures c.buckets.ensures _ c.each_part.ensures blank_copies (λ g. matched false) (λ i x y l q. search rules)
