use Rattle.std.proofs.Common.{◌≡◌, ◌*◌, length, refl, ap, ◌∙◌, rules}
use Rattle.layout.specs.Contents.{blank_proxy}
use Rattle.layout.specs.Layout.{proxy_codec}
use Rattle.layout.proofs.Each.{part_length, all_written}
use Rattle.format.proofs.proxies.Goals as goal

pub each_part-requires-clause-callable : goal.each_part-requires-clause-callable
each_part-requires-clause-callable c = λ i x l e.
    let long : length x.now ≡ 8 * 66 = ap length e ∙ part_length 66 4 i c.args.s.now c.requires l in
    search rules

pub returns : goal.returns
returns c =
    all_written proxy_codec 4 c.args.s.now c.each_part.new.s c.requires c.each_part.auto.s 66 4 refl refl _ c.each_part.ensures (λ p. blank_proxy)
    (λ i x y l q. search rules)
