use Rattle.words.specs.Words.{words}
use Rattle.layout.specs.Store.{decode}
use Rattle.mend.specs.Keys.{before}
use Rattle.mend.proofs.Flagged.{met_none}
use Rattle.mend.proofs.Mending.{before_start}
use Rattle.mend.proofs.room.count_part.Goals as goal

pub count_all-requires : goal.count_all-requires
count_all-requires c =
    let a = c.args in
    let t = decode (words a.store.now) in
    (c.requires, met_none a.settings a.store.now c.requires.there.store (t.ids a.place) a.base (before t 0 0) (before_start t))
