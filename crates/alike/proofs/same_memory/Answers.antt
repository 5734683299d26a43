use mathlib.Core.Path.{◌∙◌}
use Rattle.words.specs.Words.{words}
use Rattle.layout.specs.Store.{decode}
use Rattle.alike.proofs.Memories.{stands, nowhere, first_stands, second_stands, none_stand}
use Rattle.alike.proofs.same_memory.Goals as goal

pub returns-in-Some-None : goal.returns-in-Some-None
returns-in-Some-None c =
    let one = decode (words c.args.one.now) in
    let other = decode (words c.args.other.now) in
    let g = c.args.bucket in
    c.none_there.ensures
    ∙ first_stands one other g c.in-Some-None.first (stands c.args.settings one g c.in-Some-None.is-0 c.primary_place.ensures).here
    (nowhere c.args.settings other g c.in-Some-None.is-1 c.primary_place-2.ensures)

pub returns-in-None-Some : goal.returns-in-None-Some
returns-in-None-Some c =
    let one = decode (words c.args.one.now) in
    let other = decode (words c.args.other.now) in
    let g = c.args.bucket in
    c.none_there-in-None-Some.ensures
    ∙ second_stands one other g c.in-None-Some.second (nowhere c.args.settings one g c.in-None-Some.is-0 c.primary_place.ensures)
    (stands c.args.settings other g c.in-None-Some.is-1 c.primary_place-2.ensures).here

pub returns-in-None-None : goal.returns-in-None-None
returns-in-None-None c =
    let one = decode (words c.args.one.now) in
    let other = decode (words c.args.other.now) in
    let g = c.args.bucket in
    none_stand one other g (nowhere c.args.settings one g c.in-None-None.is-0 c.primary_place.ensures)
    (nowhere c.args.settings other g c.in-None-None.is-1 c.primary_place-2.ensures)
