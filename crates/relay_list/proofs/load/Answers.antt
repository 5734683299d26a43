use Rattle.std.proofs.Common.{◌≡◌, length, ◌∙◌, arith}
use Rattle.std.proofs.Math.Numerals.{add-one}
use Rattle.words.specs.Words.{words}
use Rattle.words.proofs.Laws.{length_words}
use Rattle.layout.specs.Layout.{bag_codec, bag_words}
use Rattle.relay_list.proofs.Words.{one_more, held_count, loaded}
use Rattle.relay_list.proofs.load.Goals as goal

pub loop-i-preserved : goal.loop-i-preserved
loop-i-preserved c =
    let part = c.args.part.now in
    let size = c.requires.0.size in
    let whole : length (words part) ≡ bag_words = length_words part ∙ omega arith in
    let held = held_count (words part) whole c.requires.0.few in
    rw add-one
    (one_more c.loop-i.i c.relay_at.result c.loop-i.list c.args.list.now (bag_codec.dec (words part)) (omega arith) (omega arith) c.loop-i.invariant
    c.relay_at.ensures)

pub returns : goal.returns
returns c =
    let part = c.args.part.now in
    let size = c.requires.0.size in
    let whole : length (words part) ≡ bag_words = length_words part ∙ omega arith in
    let all : c.loop-i.i ≡ c.count-count.result = omega arith in
    let filled = rw (all, c.count-count.ensures) at c.loop-i.invariant in
    rw c.count-count.ensures (loaded (words part) c.args.list.now c.loop-i.list whole c.requires.0.few filled)
