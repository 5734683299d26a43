use mathlib.Core.Path.{refl}
use Prim.Native.Nat.{◌+◌, ◌≤◌}
use native.Mathlib.Omega.{arith}
use lib.ListN.{length}
use Rattle.read_many.specs.Read.{answer_bytes}
use Rattle.read_many.proofs.Answers.{written_none, next_fits, written-more, written_all}
use borrow.Author.Rules.{rules}
use Rattle.read_many.proofs.set_answers.Goals as goal

-- there is room for the answer to the block
room : (c : goal.In-loop-block)
    → c.loop-block.at + answer_bytes c.args.settings.size ≤ length c.loop-block.answers
room c =
    let s = c.args in
    let l = c.loop-block in
    next_fits s.settings s.store.now c.requires.0 s.proxy s.blocks.now s.answers.now l.answers l.block-index l.at l.invariant c.loop-block-test.true
    c.requires.1

pub loop-block-init : goal.loop-block-init
loop-block-init c = written_none _ _ _ _ _

pub overflow_add-end : goal.overflow_add-end
overflow_add-end c = omega (arith, room c)

pub slice_bounds-set_answer-count : goal.slice_bounds-set_answer-count
slice_bounds-set_answer-count c =
    let room : c.loop-block.at + answer_bytes c.args.settings.size ≤ length c.loop-block.answers = let s = c.args in
    let l = c.loop-block in
    next_fits s.settings s.store.now c.requires.0 s.proxy s.blocks.now s.answers.now l.answers l.block-index l.at l.invariant c.loop-block-test.true
    c.requires.1 in
    let fits = room in omega arith

pub slice_bounds-set_answer-start : goal.slice_bounds-set_answer-start
slice_bounds-set_answer-start c =
    let room : c.loop-block.at + answer_bytes c.args.settings.size ≤ length c.loop-block.answers = let s = c.args in
    let l = c.loop-block in
    next_fits s.settings s.store.now c.requires.0 s.proxy s.blocks.now s.answers.now l.answers l.block-index l.at l.invariant c.loop-block-test.true
    c.requires.1 in
    let fits = room in search rules

pub slice_bounds-set_answer-end : goal.slice_bounds-set_answer-end
slice_bounds-set_answer-end c =
    let room : c.loop-block.at + answer_bytes c.args.settings.size ≤ length c.loop-block.answers = let s = c.args in
    let l = c.loop-block in
    next_fits s.settings s.store.now c.requires.0 s.proxy s.blocks.now s.answers.now l.answers l.block-index l.at l.invariant c.loop-block-test.true
    c.requires.1 in
    let fits = room in omega arith

pub set_answer-requires : goal.set_answer-requires
set_answer-requires c =
    let room : c.loop-block.at + answer_bytes c.args.settings.size ≤ length c.loop-block.answers = let s = c.args in
    let l = c.loop-block in
    next_fits s.settings s.store.now c.requires.0 s.proxy s.blocks.now s.answers.now l.answers l.block-index l.at l.invariant c.loop-block-test.true
    c.requires.1 in
    let fits = room in search rules

pub loop-block-smaller : goal.loop-block-smaller
loop-block-smaller c = omega arith

pub loop-block-preserved : goal.loop-block-preserved
loop-block-preserved c =
    let s = c.args in
    let l = c.loop-block in
    written-more s.settings s.store.now c.requires.0 s.proxy s.blocks.now s.answers.now l.answers l.block-index l.at l.invariant
    c.loop-block-test.true c.requires.1 _ _ c.set_answer.ensures refl (search rules)

pub shape_of-answers : goal.shape_of-answers
shape_of-answers c = c.loop-block.invariant.same

pub returns : goal.returns
returns c =
    let s = c.args in
    let l = c.loop-block in
    written_all s.settings s.store.now c.requires.0 s.proxy s.blocks.now s.answers.now l.answers l.block-index l.at l.invariant (omega arith)
