use mathlib.Core.Path.{◌∙◌}
use Prim.Native.Nat.{◌+◌, ◌*◌, ◌-◌}
use native.Mathlib.Omega.{arith}
use Rattle.lists.proofs.Runs.{run_length}
use Rattle.mappings.proofs.Waiting.{buffer_table, buffer_counts, waited}
use Rattle.mappings.proofs.buffer.append.Goals as goal

pub append-requires : goal.append-requires
append-requires c =
    let p = c.requires in
    let o = 8 * (c.place_at.result + 6) in
    let e = o + 520 in record {
      table = buffer_table c.args.settings c.args.store.now p.0 c.args.place p.1 p.2 o e (omega (arith, c.place_at.ensures.0)) (omega arith)
          (run_length o (e - o) c.args.store.now (omega arith) ∙ omega arith);
      t_bound = omega (
        arith,
        p.3,
        buffer_counts c.args.settings c.args.store.now p.0 c.args.place p.1 p.2 o e (omega (arith, c.place_at.ensures.0))
            (omega arith),
      );
    }

pub returns : goal.returns
returns c =
    let place_at = c.place_at in
    let append = c.append in
    let p = c.requires in
    let o = 8 * (place_at.result + 6) in
    waited c.args.settings c.args.store.now p.0 c.args.place p.1 p.2 o (o + 520) (omega (arith, place_at.ensures.0)) (omega arith)
    c.args.block.0 c.args.key.0 append.new.t (omega arith) append.ensures
