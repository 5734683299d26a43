use Rattle.lent.proofs.Parts.{memory_part}
use Rattle.lent.proofs.place.memory.Goals as goal

pub returns : goal.returns
returns c =
    let a = c.args in
    let e = rw (c.memory_at-at.ensures.0, c.copy_words.ensures) at c.words_of.ensures in
    memory_part a.settings a.store.now e.whole c.requires.0 a.place c.requires.1 e.of_place c.requires.2 a.bucket c.requires.3 _ e.size e.same
