use mathlib.Core.Path.{◌≡◌}
use mathlib.Core.Bool.{true, false}
use Rattle.lists.proofs.Runs.{below_of}
use Rattle.words.specs.Words.{words}
use Rattle.rules.specs.Chunks.{held}
use Rattle.layout.specs.Store.{decode}
use Rattle.mend.specs.Fit.{log_of}
use Rattle.mend.specs.Keys.{wants}
use Rattle.mend.specs.Acts.{Lacking}
use Rattle.mend.proofs.Flagged.{meets_none, meets_held, place_flagged, meets_it}
use Rattle.mend.proofs.room.count_key.Goals as goal

pub count_row-requires : goal.count_row-requires
count_row-requires c =
    let lacking : let a = c.args in
    let t = decode (words a.store.now) in
    Lacking a.settings t (t.ids a.place) a.key.0 c.in-Bring.from.place c.in-Bring.from.row = rw c.in-Bring.is at c.for_key.ensures in
    (c.requires.1, place_flagged c.args.settings c.args.store.now c.requires.0.store _ c.args.base _ _ _ (lacking))

pub returns-in-Nothing : goal.returns-in-Nothing
returns-in-Nothing c =
    let a = c.args in
    let t = decode (words a.store.now) in
    let n : wants t (t.ids a.place) a.key.0 ≡ false = rw c.in-Nothing.is at c.for_key.ensures in
    meets_none a.settings a.store.now c.requires.0.store _ a.base a.key.0 a.flags.now n

pub returns-in-Save : goal.returns-in-Save
returns-in-Save c =
    let a = c.args in
    let t = decode (words a.store.now) in
    let y : (wants t (t.ids a.place) a.key.0 ≡ true) × (held (log_of a.place (words a.store.now)) a.key.0 ≡ true) =
    rw c.in-Save.is at c.for_key.ensures in
    meets_held a.settings a.store.now c.requires.0.store _ a.base a.key.0 a.flags.now y.1

pub returns-in-Bring : goal.returns-in-Bring
returns-in-Bring c =
    let lacking : let a = c.args in
    let t = decode (words a.store.now) in
    Lacking a.settings t (t.ids a.place) a.key.0 c.in-Bring.from.place c.in-Bring.from.row = rw c.in-Bring.is at c.for_key.ensures in
    let a = c.args in
    meets_it a.settings a.store.now c.requires.0.store _ a.base a.key.0 _ _ (lacking) a.flags.now _ _ _
    c.count_row.ensures (below_of 256 a.flags.now (λ i. (c.slice_known-1.given i).fits))
