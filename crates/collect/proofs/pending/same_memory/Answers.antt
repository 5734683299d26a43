use mathlib.Core.Path.{◌≡◌, sym, ap, subst, ◌∙◌}
use Prim.Native.Nat.{ℕ, ◌<◌}
use Rattle.words.specs.Words.{words}
use Rattle.rules.specs.Sound.{same_entries}
use Rattle.layout.specs.Contents.{Brick, blank_brick}
use Rattle.layout.specs.Store.{brick_in, decode}
use Rattle.lent.specs.Places.{Stands}
use Rattle.collect.proofs.Questions.{same_none, lent_same}
use Rattle.collect.proofs.pending.same_memory.Goals as goal

pub returns-in_default : goal.returns-in_default
returns-in_default c =
    let a = c.args in
    let h : brick_in (decode (words a.store.now)) a.one ≡ blank_brick =
    rw c.in_default.is at c.place_of.ensures in
    let k = (decode (words a.store.now)).bucket a.bucket in
    c.clear.ensures ∙ sym (ap (λ (b : Brick). same_entries (b.copies a.bucket).memory (k.memory a.two)) h)

pub returns-in_default-place_of : goal.returns-in_default-place_of
returns-in_default-place_of c =
    let a = c.args in
    let h : brick_in (decode (words a.store.now)) a.two ≡ blank_brick =
    rw c.in_default-place_of.is at c.place_of-2.ensures in
    let k = (decode (words a.store.now)).bucket a.bucket in
    c.clear-in_default-place_of.ensures ∙ sym (ap (λ (b : Brick). same_entries (k.memory a.one) (b.copies a.bucket).memory) h ∙ same_none (k.memory a.one))

pub memory-requires : goal.memory-requires
memory-requires c =
    let a = c.args in
    let f : Stands a.settings (decode (words a.store.now)) a.one c.in-Some.first =
    rw c.in-Some.is at c.place_of.ensures in
    let h : Stands a.settings (decode (words a.store.now)) a.two c.in-Some-place_of.second =
    rw c.in-Some-place_of.is at c.place_of-2.ensures in
    (c.requires.0, f.inside, subst (λ (n : ℕ). 0 < n) (sym f.here) f.some, c.requires.1)

pub memory-requires-2 : goal.memory-requires-2
memory-requires-2 c =
    let a = c.args in
    let f : Stands a.settings (decode (words a.store.now)) a.one c.in-Some.first =
    rw c.in-Some.is at c.place_of.ensures in
    let h : Stands a.settings (decode (words a.store.now)) a.two c.in-Some-place_of.second =
    rw c.in-Some-place_of.is at c.place_of-2.ensures in
    (c.requires.0, h.inside, subst (λ (n : ℕ). 0 < n) (sym h.here) h.some, c.requires.1)

pub returns : goal.returns
returns c =
    let a = c.args in
    let f : Stands a.settings (decode (words a.store.now)) a.one c.in-Some.first =
    rw c.in-Some.is at c.place_of.ensures in
    let h : Stands a.settings (decode (words a.store.now)) a.two c.in-Some-place_of.second =
    rw c.in-Some-place_of.is at c.place_of-2.ensures in
    let k = (decode (words a.store.now)).bucket a.bucket in
    lent_same _ _ _ (k.memory a.one) (k.memory a.two) c.same.ensures (c.memory.ensures.same ∙ ap k.memory f.here)
    (c.memory-2.ensures.same ∙ ap k.memory h.here)
