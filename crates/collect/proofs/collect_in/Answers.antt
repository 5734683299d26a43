use native.Mathlib.Omega.{arith}
use Prim.Native.Nat.{◌+◌}
use Rattle.lists.proofs.Runs.{below_of}
use Rattle.collect.proofs.Collecting.{Lies, log_in, tables_in, log_still, collected}
use Rattle.collect.proofs.collect_in.Goals as goal
use Rattle.collect.proofs.collect_in.Goals.{After-log_at}

-- where the log and the named entries lie
lies : (c : After-log_at) → let a = c.args in Lies a.settings a.store.now a.place c.all_named.new.tables (c.place_at.result + c.log_at.result)
lies c = record { there = c.requires.0; known = c.all_named.ensures; begins = omega (arith, c.place_at.ensures.0, c.log_at.ensures) }

pub mark_tables-requires : goal.mark_tables-requires
mark_tables-requires c =
    let o = lies (goal.at.mark_tables-requires c).After-log_at in record { log_in = log_in _ _ _ _ _ o; tables_in = tables_in _ _ _ _ _ o }

pub sweep_log-requires : goal.sweep_log-requires
sweep_log-requires c = log_still _ _ _ _ _ (lies (goal.at.sweep_log-requires c).After-log_at) _ _ _ c.mark_tables.ensures (omega arith)

pub returns : goal.returns
returns c =
    collected _ _ _ _ _ (lies (goal.at.returns c).After-log_at) (below_of 256 _ (λ i. (c.slice_known-1.given i).fits)) _ _ c.mark_tables.ensures
    c.sweep_log.ensures
