use Rattle.lent.proofs.Parts.{buffer_part}
use Rattle.lent.proofs.place.buffer.Goals as goal

pub returns : goal.returns
returns c =
    let a = c.args in
    let e = c.words_of.ensures in
    buffer_part a.settings a.store.now e.whole c.requires.0 a.place c.requires.1 e.of_place c.requires.2 _ e.size e.same
