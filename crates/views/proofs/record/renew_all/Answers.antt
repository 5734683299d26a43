use Rattle.std.proofs.Common.{◌≡◌, ◌*◌, ◌+◌, ◌<◌, length, refl, ap, ◌∙◌, rules, arith}
use Rattle.rules.specs.Limits.{buckets}
use Rattle.rules.specs.Pairs.{id_in}
use Rattle.layout.specs.Contents.{blank_agreed}
use Rattle.layout.specs.Layout.{agreed_codec}
use Rattle.layout.proofs.Each.{part_length, all_changed}
use Rattle.views.specs.Begin.{renewed}
use Rattle.views.proofs.record.renew_all.Goals as goal

pub each_part-requires-clause-callable : goal.each_part-requires-clause-callable
each_part-requires-clause-callable c = λ i x l e.
    let long : length x.now ≡ 8 * 8 = ap length e ∙ part_length 8 c.buckets.result i c.args.part.now (cc (c.requires.0, c.buckets.ensures)) l in
    let inside : 2 * i + 1 < length c.args.assigned.now = omega (arith, c.buckets.ensures, c.requires.1) in
    search rules

pub returns : goal.returns
returns c =
    let assigned = c.args.assigned.now in
    all_changed agreed_codec (buckets c.args.settings) c.args.part.now c.each_part.new.s c.requires.0 c.each_part.auto.s 8 c.buckets.result refl
    c.buckets.ensures _ c.each_part.ensures blank_agreed (λ g. renewed (id_in assigned (2 * g)) (id_in assigned (2 * g + 1)))
    (λ i x y l q. search rules)
