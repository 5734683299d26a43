use Rattle.std.proofs.Common.{◌≡◌, ◌*◌, length, ap, ◌∙◌, rules}
use Rattle.rules.specs.Limits.{buckets}
use Rattle.layout.specs.Contents.{blank_copies}
use Rattle.layout.specs.Layout.{copies_codec}
use Rattle.layout.proofs.Each.{part_length, all_written}
use Rattle.format.proofs.all_copies.Goals as goal

pub each_part-requires-clause-callable : goal.each_part-requires-clause-callable
each_part-requires-clause-callable c = λ i x l e.
    let long : length x.now ≡ 8 * c.copies_words.result =
    ap length e ∙ part_length c.copies_words.result c.buckets.result i c.args.s.now (cc (c.requires.1, c.copies_words.ensures, c.buckets.ensures)) l in
    search rules

pub returns : goal.returns
returns c =
    let t = c.args.settings in
    all_written (copies_codec t) (buckets t) c.args.s.now c.each_part.new.s c.requires.1 c.each_part.auto.s c.copies_words.result c.buckets.result
    c.copies_words.ensures c.buckets.ensures _ c.each_part.ensures (λ g. blank_copies) (λ i x y l q. search rules)
