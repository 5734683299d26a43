use mathlib.Core.Path.{refl}
use borrow.Author.Rules.{rules}
use Rattle.lent.proofs.AllPlaces.{each_place}
use Rattle.layout.specs.Contents.{blank_place}
use Rattle.layout.specs.Layout.{place_codec}
use Rattle.layout.proofs.Each.{all_changed}
use Rattle.recovery.specs.Ready.{dropped_copies}
use Rattle.recovery.proofs.others.drop_all.Goals as goal

pub each_part-requires-clause-callable : goal.each_part-requires-clause-callable
each_part-requires-clause-callable c = λ i x l e.
    let clean = each_place c.args.settings c.args.part.now c.requires.0 c.place_words.result i c.place_words.ensures l x.now e in
    search rules

pub returns : goal.returns
returns c =
    let t = c.args.settings in
    all_changed (place_codec t) t.places c.args.part.now c.each_part.new.s c.requires.0.size c.each_part.auto.s c.place_words.result t.places
    c.place_words.ensures refl _ c.each_part.ensures blank_place (λ p. dropped_copies c.args.bucket c.args.primary c.args.backup) (λ i x y l q. search rules)
