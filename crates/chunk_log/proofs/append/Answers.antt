use borrow.Author.Rules.{rules}
use mathlib.Core.Path.{refl, ◌∙◌}
use Prim.Native.Nat.{◌+◌, ◌*◌, ◌-◌}
use native.Mathlib.Omega.{arith}
use Rattle.lists.proofs.Runs.{below_of}
use Rattle.chunk_log.proofs.Steps.{copied_fits, copied_leaves}
use Rattle.chunk_log.proofs.append.Goals as goal

pub append_in_place-requires : goal.append_in_place-requires
append_in_place-requires c =
    let q = 8 * (1 + 3 * c.args.chunks + c.offset-at.result) in
    copied_fits c.args.chunks c.args.width c.args.log.now c.requires.log
    (below_of 256 c.args.log.now (λ i. search rules)) c.read-n.result c.offset-at.result c.args.bytes.now
    c.copy_bytes.new.d q (q + 8 * c.args.width - q) c.requires.log_bound.0 c.read-n.ensures c.requires.log_bound.1 c.copy_bytes.ensures
    c.offset-at.ensures.0 refl (omega arith) (omega arith)

pub returns : goal.returns
returns c =
    let q = 8 * (1 + 3 * c.args.chunks + c.offset-at.result) in
    c.append_in_place.ensures
    ∙ copied_leaves c.args.chunks c.args.width c.args.log.now c.requires.log
    (below_of 256 c.args.log.now (λ i. search rules)) c.read-n.result c.offset-at.result c.args.bytes.now
    c.copy_bytes.new.d q (q + 8 * c.args.width - q) c.requires.log_bound.0 c.read-n.ensures c.requires.log_bound.1 c.copy_bytes.ensures
    c.offset-at.ensures.0 refl (omega arith) c.args.key.0 c.args.saved
    (below_of 256 c.args.bytes.now (λ i. (c.type_inv.bytes i).fits))
