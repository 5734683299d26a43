use Rattle.std.proofs.Common.{◌≡◌, ◌*◌, length, refl, ap, ◌∙◌, rules}
use Rattle.layout.specs.Layout.{place_codec}
use Rattle.layout.proofs.Each.{part_length, all_written}
use Rattle.format.specs.First.{first_place}
use Rattle.format.proofs.places.Goals as goal

pub each_part-requires-clause-callable : goal.each_part-requires-clause-callable
each_part-requires-clause-callable c = λ i x l e.
    let long : length x.now ≡ 8 * c.place_words.result =
    ap length e ∙ part_length c.place_words.result c.args.settings.places i c.args.s.now (cc (c.requires.1, c.place_words.ensures)) l in
    search rules

pub returns : goal.returns
returns c =
    let t = c.args.settings in
    all_written (place_codec t) t.places c.args.s.now c.each_part.new.s c.requires.1 c.each_part.auto.s c.place_words.result t.places
    c.place_words.ensures refl _ c.each_part.ensures first_place (λ i x y l q. search rules)
