use Rattle.std.proofs.Common.{◌≡◌, ◌*◌, ◌+◌, ◌<◌, length, refl, ap, ◌∙◌, rules, arith}
use Rattle.rules.specs.Limits.{buckets}
use Rattle.layout.specs.Layout.{agreed_codec}
use Rattle.layout.proofs.Each.{part_length, all_written}
use Rattle.format.specs.First.{agreed_in}
use Rattle.format.proofs.bucket_records.Goals as goal

pub each_part-requires-clause-callable : goal.each_part-requires-clause-callable
each_part-requires-clause-callable c = λ i x l e.
    let long : length x.now ≡ 8 * 8 = ap length e ∙ part_length 8 c.buckets.result i c.args.s.now (cc (c.requires.0, c.buckets.ensures)) l in
    let inside : 2 * i + 1 < length c.args.assigned.now = omega (arith, c.buckets.ensures, c.requires.1) in
    search rules

pub returns : goal.returns
returns c =
    let n = buckets c.args.settings in
    all_written agreed_codec n c.args.s.now c.each_part.new.s c.requires.0 c.each_part.auto.s 8 c.buckets.result refl c.buckets.ensures _ c.each_part.ensures
    (agreed_in c.args.assigned.now) (λ i x y l q. search rules)
