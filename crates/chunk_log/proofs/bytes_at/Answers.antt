use mathlib.Core.Path.{refl}
use Prim.Native.Nat.{◌+◌, ◌*◌, ◌-◌}
use native.Mathlib.Omega.{arith}
use Rattle.lists.proofs.Runs.{below_of}
use Rattle.chunk_log.proofs.Steps.{part_bytes}
use Rattle.chunk_log.proofs.bytes_at.Goals as goal

pub returns : goal.returns
returns c =
    let q = 8 * (1 + 3 * c.args.chunks + c.offset-at.result) in
    part_bytes c.args.chunks c.args.width c.args.log.now c.requires.log_with c.args.p c.offset-at.result q (q + 8 * c.args.width - q)
    (below_of 256 c.args.log.now (λ i. (c.type_inv.log i).fits)) c.requires.p_bound c.offset-at.ensures.0
    c.offset-at.ensures.1 refl (omega arith)
