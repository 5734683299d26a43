use mathlib.Core.Path.{◌≡◌}
use mathlib.Core.Bool.{true, false}
use Rattle.lists.proofs.Runs.{below_of}
use Rattle.words.specs.Words.{words}
use Rattle.rules.specs.Chunks.{held}
use Rattle.layout.specs.Store.{decode}
use Rattle.mend.specs.Fit.{log_of}
use Rattle.mend.specs.Keys.{wants}
use Rattle.mend.specs.Acts.{Lacking}
use Rattle.mend.proofs.OneKey.{unmended, saved}
use Rattle.mend.proofs.effect.mend_key.Goals as goal

pub bring-requires : goal.bring-requires
bring-requires c =
    let lacking : let a = c.args in
    let t = decode (words a.store.now) in
    Lacking a.settings t (t.ids a.place) a.key.0 c.in-Bring.from.place c.in-Bring.from.row = rw c.in-Bring.is at c.for_key.ensures in record { mends = c.requires; lacking = lacking }

pub returns-in-Nothing : goal.returns-in-Nothing
returns-in-Nothing c =
    let a = c.args in
    let t = decode (words a.store.now) in
    let n : wants t (t.ids a.place) a.key.0 ≡ false = rw c.in-Nothing.is at c.for_key.ensures in
    unmended a.settings a.store.now a.place a.key.0 c.requires.0 (below_of 256 a.store.now (λ i. (c.slice_known-1.given i).fits)) n

pub returns-in-Save : goal.returns-in-Save
returns-in-Save c =
    let a = c.args in
    let t = decode (words a.store.now) in
    let y : (wants t (t.ids a.place) a.key.0 ≡ true) × (held (log_of a.place (words a.store.now)) a.key.0 ≡ true) =
    rw c.in-Save.is at c.for_key.ensures in
    saved a.settings a.store.now a.place a.key.0 c.requires.0 y.0 y.1 _ c.save_at.ensures

pub returns-in-Bring : goal.returns-in-Bring
returns-in-Bring c = c.bring.ensures
