use mathlib.Core.Path.{◌≡◌, sym, ap, subst, ◌∙◌}
use mathlib.Core.List.{[]}
use Prim.Native.Nat.{ℕ, ◌<◌}
use lib.Dec.{eqb}
use lib.ListN.{length}
use Rattle.words.specs.Words.{words}
use Rattle.named.proofs.Copies.{count_is}
use Rattle.rules.specs.Sound.{same_entries}
use Rattle.layout.specs.Contents.{Brick, blank_brick}
use Rattle.layout.specs.Store.{brick_in, decode}
use Rattle.lent.specs.Places.{Stands}
use Rattle.entries.proofs.Sorted.{same_self}
use Rattle.collect.proofs.Questions.{none_same}
use Rattle.collect.proofs.pending.clear.Goals as goal

pub memory-requires : goal.memory-requires
memory-requires c =
    let a = c.args in
    let h : Stands a.settings (decode (words a.store.now)) a.id c.in-Some.place =
    rw c.in-Some.is at c.place_of.ensures in
    (c.requires.0, h.inside, subst (λ (n : ℕ). 0 < n) (sym h.here) h.some, c.requires.1)

pub returns-in-Some : goal.returns-in-Some
returns-in-Some c =
    let a = c.args in
    let h : Stands a.settings (decode (words a.store.now)) a.id c.in-Some.place =
    rw c.in-Some.is at c.place_of.ensures in
    let k = (decode (words a.store.now)).bucket a.bucket in
    let e = c.memory.ensures.same ∙ ap k.memory h.here in
    ap (λ (n : ℕ). eqb n 0) (c.read.ensures ∙ sym (count_is a.settings.entries _) ∙ ap length e) ∙ none_same (k.memory a.id)

pub returns-in-None : goal.returns-in-None
returns-in-None c =
    let a = c.args in
    let h : brick_in (decode (words a.store.now)) a.id ≡ blank_brick = rw c.in-None.is at c.place_of.ensures in
    sym (ap (λ (b : Brick). same_entries [] (b.copies a.bucket).memory) h ∙ same_self [])
