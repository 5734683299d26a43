use mathlib.Core.Path.{◌≡◌, sym, ap, ◌∙◌}
use mathlib.Core.List.{List}
use Prim.Native.Nat.{ℕ, ◌≤◌}
use native.Mathlib.Omega.{arith}
use lib.ListN.{length, take}
use Rattle.lists.proofs.Runs.{below_of}
use Rattle.rules.specs.Limits.{max_size}
use Rattle.rules.specs.Reads.{zeros}
use Rattle.layout.specs.Store.{decode_bytes}
use Rattle.replies.proofs.Outcomes.{zeros_length, zeros_front, said_within, get_written}
use Rattle.replies.proofs.answer_get.Goals as goal

pub slice_bounds-get-end : goal.slice_bounds-get-end
slice_bounds-get-end c =
    let small : c.args.settings.size ≤ max_size = c.requires.0.limits.size_to in
    let blank : take c.args.settings.size c.zero_block-blank.result ≡ zeros c.args.settings.size = ap (λ (l : List ℕ). take c.args.settings.size l) c.zero_block-blank.ensures ∙ zeros_front max_size c.args.settings.size (small) in
    sym (ap length (blank) ∙ zeros_length _)

pub get-requires : goal.get-requires
get-requires c =
    let small : c.args.settings.size ≤ max_size = c.requires.0.limits.size_to in
    let blank : take c.args.settings.size c.zero_block-blank.result ≡ zeros c.args.settings.size = ap (λ (l : List ℕ). take c.args.settings.size l) c.zero_block-blank.ensures ∙ zeros_front max_size c.args.settings.size (small) in
    (c.requires.0, blank)

pub write_answer-requires : goal.write_answer-requires
unfolding decode_bytes
write_answer-requires c =
    let a = c.args in
    omega (arith, c.requires.1, c.requires.0.limits.size_to, ap length c.in-Ok.ensures.same, said_within a.settings a.store.now c.requires.0 a.proxy a.block)

pub returns-in-Ok : goal.returns-in-Ok
unfolding decode_bytes
returns-in-Ok c =
    let a = c.args in
    let w = c.write_answer in
    get_written a.settings a.store.now c.requires.0 a.proxy a.block (below_of 256 _ (λ i. omega (arith, c.type_inv.store i)))
    c.in-Ok.ensures a.number _ a.area.now _ w.ensures.0 w.ensures.1

pub returns-in-Err : goal.returns-in-Err
unfolding decode_bytes
returns-in-Err c =
    let a = c.args in
    let w = c.write_answer-in-Err in
    get_written a.settings a.store.now c.requires.0 a.proxy a.block (below_of 256 _ (λ i. omega (arith, c.type_inv.store i)))
    c.in-Err.ensures a.number _ a.area.now _ (rw c.from.ensures at w.ensures.0) (rw c.from.ensures at w.ensures.1)
