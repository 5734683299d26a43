use Rattle.lent.proofs.Parts.{log_part}
use Rattle.lent.proofs.place.log.Goals as goal

pub returns : goal.returns
returns c =
    let a = c.args in
    let e = rw (c.log_at-at.ensures, c.log_words.ensures) at c.words_of.ensures in
    log_part a.settings a.store.now e.whole c.requires.0 a.place c.requires.1 e.of_place c.requires.2 _ e.size e.same
