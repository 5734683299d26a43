use mathlib.Core.Path.{◌≡◌, sym, ap, subst, ◌∙◌}
use mathlib.Core.Bool.{true, false}
use Prim.Native.Nat.{ℕ}
use Rattle.lists.proofs.Tests.{clash}
use Rattle.words.specs.Words.{words}
use Rattle.rules.specs.Numbers.{home_of}
use Rattle.rules.specs.Chunks.{held}
use Rattle.rules.specs.State.{State}
use Rattle.rules.specs.Writes.{target, nothing_to_copy}
use Rattle.chunk_log.specs.Answers.{FoundAt}
use Rattle.layout.specs.Contents.{blank_brick}
use Rattle.layout.specs.Store.{brick_in, decode}
use Rattle.lent.specs.Places.{Stands}
use Rattle.chunk_copy.specs.Copies.{Lacking}
use Rattle.chunk_copy.proofs.Copies.{none_up, none_copied, home_holds, copy_fits, one_copied}
use Rattle.chunk_copy.proofs.effect.Goals as goal

pub returns-in_default : goal.returns-in_default
returns-in_default c =
    let state : State = decode (words c.args.store.now) in
    let nothing : nothing_to_copy (state) c.args.key.0 ≡ true = rw c.in_default.is at c.copied_to.ensures in
    none_copied c.args.settings c.args.store.now c.requires.0 c.args.key.0 nothing

pub returns-in_default-place_of : goal.returns-in_default-place_of
returns-in_default-place_of c =
    let state : State = decode (words c.args.store.now) in
    let home = c.home in
    let blank : brick_in (state) home.result ≡ blank_brick = rw c.in_default-place_of.is at c.place_of.ensures in
    none_up c.args.settings (state) c.args.key.0 _ (ap (brick_in (state)) (sym home.ensures) ∙ blank) c.requires.1.1.0

pub find_at-requires : goal.find_at-requires
find_at-requires c =
    let state : State = decode (words c.args.store.now) in
    let source : Stands c.args.settings (state) (home_of c.args.key.0) c.in-Some-place_of.home = let place = c.in-Some-place_of.home in
    let home = c.home in
    let at : Stands c.args.settings (state) home.result place = rw c.in-Some-place_of.is at c.place_of.ensures in
    subst (λ (i : ℕ). Stands c.args.settings (state) i place) home.ensures at in
    (c.requires.0, (source).inside, rw (source).here (source).some)

pub returns-in_default-find_at : goal.returns-in_default-find_at
returns-in_default-find_at c =
    let state : State = decode (words c.args.store.now) in
    let lacking : Lacking c.args.settings (state) (target (state) c.args.key.0) c.args.key.0 c.in-Some.target = rw c.in-Some.is at c.copied_to.ensures in
    let source : Stands c.args.settings (state) (home_of c.args.key.0) c.in-Some-place_of.home = let place = c.in-Some-place_of.home in
    let home = c.home in
    let at : Stands c.args.settings (state) home.result place = rw c.in-Some-place_of.is at c.place_of.ensures in
    subst (λ (i : ℕ). Stands c.args.settings (state) i place) home.ensures at in
    let none : held ((state).bricks.log ((state).ids c.in-Some-place_of.home)) c.args.key.0 ≡ false =
    rw c.in_default-find_at.is at c.find_at.ensures in
    clash none (home_holds c.args.settings c.args.store.now c.requires.0 c.args.key.0 _ (lacking) c.requires.1 _ (source))

pub bring-requires : goal.bring-requires
bring-requires c =
    let state : State = decode (words c.args.store.now) in
    let lacking : Lacking c.args.settings (state) (target (state) c.args.key.0) c.args.key.0 c.in-Some.target = rw c.in-Some.is at c.copied_to.ensures in
    let source : Stands c.args.settings (state) (home_of c.args.key.0) c.in-Some-place_of.home = let place = c.in-Some-place_of.home in
    let home = c.home in
    let at : Stands c.args.settings (state) home.result place = rw c.in-Some-place_of.is at c.place_of.ensures in
    subst (λ (i : ℕ). Stands c.args.settings (state) i place) home.ensures at in
    let row = c.in-Some-find_at.row in
    let f : FoundAt ((state).bricks.log ((state).ids c.in-Some-place_of.home)) c.args.key.0 row = rw c.in-Some-find_at.is at c.find_at.ensures in
    copy_fits c.args.settings c.args.store.now c.requires.0 c.args.key.0 _ (lacking) c.requires.1 _ (source) row f

pub returns : goal.returns
returns c =
    let state : State = decode (words c.args.store.now) in
    let lacking : Lacking c.args.settings (state) (target (state) c.args.key.0) c.args.key.0 c.in-Some.target = rw c.in-Some.is at c.copied_to.ensures in
    let source : Stands c.args.settings (state) (home_of c.args.key.0) c.in-Some-place_of.home = let place = c.in-Some-place_of.home in
    let home = c.home in
    let at : Stands c.args.settings (state) home.result place = rw c.in-Some-place_of.is at c.place_of.ensures in
    subst (λ (i : ℕ). Stands c.args.settings (state) i place) home.ensures at in
    c.bring.ensures
    ∙ one_copied c.args.settings c.args.store.now c.requires.0 c.args.key.0 _ (lacking) c.requires.1 _ (source)
