use Rattle.std.proofs.Common.{◌≡◌, length, get_or, take, ◌∙◌, arith}
use lib.Seq.{length-take-le, get_or-take}
use Rattle.std.proofs.Math.Numerals.{add-one}
use Rattle.words.specs.Words.{words}
use Rattle.words.proofs.Laws.{length_words}
use Rattle.layout.specs.Layout.{bag_words}
use Rattle.relay_list.proofs.Elements.{blank}
use Rattle.relay_list.specs.Relays.{relay_of, bag_of}
use Rattle.relay_list.proofs.Records.{bag_length, next_bag}
use Rattle.relay_list.proofs.Words.{written_next}
use Rattle.relay_list.proofs.store.Goals as goal

pub loop-relay-preserved : goal.loop-relay-preserved
loop-relay-preserved c =
    let part = c.args.part.now in
    let list = c.args.list.now in
    let i = c.loop-relay.relay-index in
    let size = c.requires.2 in
    let front = length-take-le c.args.count list c.requires.0 in
    let same : get_or (take c.args.count list) i blank ≡ get_or list i blank = get_or-take c.args.count list i blank (omega arith) in
    let whole : length (words part) ≡ bag_words = length_words part ∙ omega arith in
    let held = bag_length i list (omega arith) in
    rw (add-one, next_bag i list (omega arith))
    ((rw same at c.append.ensures)
    ∙ written_next (bag_of i list) (relay_of (get_or list i blank)) (words part) (words c.loop-relay.part) whole (omega arith) c.loop-relay.invariant)
