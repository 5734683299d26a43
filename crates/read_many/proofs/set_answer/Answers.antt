use mathlib.Core.Path.{◌≡◌, ap, ◌∙◌}
use mathlib.Core.List.{List, ◌++◌}
use Prim.Native.Nat.{ℕ, ◌<◌}
use native.Mathlib.Omega.{arith}
use Rattle.words.specs.Words.{words}
use Rattle.rules.specs.Event.{Event}
use Rattle.rules.specs.Reads.{zeros}
use Rattle.layout.specs.Store.{decode}
use Rattle.std.specs.Prelude.{Ok, Err}
use Rattle.rules.specs.Refusals.{number}
use Rattle.reads.specs.Get.{Fills}
use Rattle.read_many.specs.Read.{head, get_answer}
use Rattle.read_many.proofs.Head.{with_rest, rest_is, rest_cleared}
use Rattle.read_many.proofs.Gets.{answer_yes, answer_no}
use borrow.Author.Rules.{rules}
use Rattle.read_many.proofs.set_answer.Goals as goal

pub set_head-requires-in-Err : goal.set_head-requires-in-Err
set_head-requires-in-Err c =
    let refused : let s = c.args in
    let code = number c.in-Err.refusal in
    (code < 256) × (head code 0 ++ zeros s.settings.size ≡ get_answer s.settings.size s.store.now s.proxy s.block) = let s = c.args in
    let f : Fills (decode (words s.store.now)) (Event.get s.proxy s.block) _ (Err c.in-Err.refusal) _ =
    rw c.in-Err.is at c.fill_block-answered.ensures in
    answer_no s.settings s.store.now c.requires.0 s.proxy s.block _ _ _ f in
    (search rules, rw c.from.ensures (refused).0)

pub returns-in-Ok : goal.returns-in-Ok
returns-in-Ok c =
    let s = c.args in
    let f : Fills (decode (words s.store.now)) (Event.get s.proxy s.block) _ (Ok c.in-Ok.key) _ =
    rw c.in-Ok.is at c.fill_block-answered.ensures in
    c.set_head.ensures ∙ ap (λ (l : List ℕ). head 0 c.in-Ok.key ++ l) (rest_is s.answer.now _ (omega arith))
    ∙ answer_yes s.settings s.store.now c.requires.0 s.proxy s.block _ _ _ f

pub returns-in-Err : goal.returns-in-Err
returns-in-Err c =
    let refused : let s' = c.args in
    let code = number c.in-Err.refusal in
    (code < 256) × (head code 0 ++ zeros s'.settings.size ≡ get_answer s'.settings.size s'.store.now s'.proxy s'.block) = let s' = c.args in
    let f : Fills (decode (words s'.store.now)) (Event.get s'.proxy s'.block) _ (Err c.in-Err.refusal) _ =
    rw c.in-Err.is at c.fill_block-answered.ensures in
    answer_no s'.settings s'.store.now c.requires.0 s'.proxy s'.block _ _ _ f in
    let s = c.args in
    let filled : List ℕ = with_rest s.answer.now c.fill_block-answered.new.area in
    (rw c.from.ensures at c.set_head-in-Err.ensures) ∙ ap (λ (l : List ℕ). head (number c.in-Err.refusal) 0 ++ l)
    (rest_cleared s.settings.size filled _ (c.answer-1.given.1 ∙ c.requires.1) c.clear.ensures) ∙ (refused).1
