use mathlib.Core.Path.{sym, ◌∙◌}
use native.Mathlib.Omega.{arith}
use Rattle.std.proofs.lemmas.List.{take_all, take_more, take_more_set}
use lib.ListN.{length}
use Rattle.hexadecimal.specs.Hex.{unhex}
use Rattle.hexadecimal.proofs.Laws.{is_bytes, unhex_length, unhex_at}
use Rattle.hexadecimal.proofs.decode.Goals as goal

-- `hexadecimal::decode` meets its contract.

pub loop-i-preserved : goal.loop-i-preserved
loop-i-preserved c =
    let s = c.args.digits.now in
    let l = c.loop-i in
    let b = is_bytes (length c.args.area.now) s c.requires in
    let n = unhex_length (length c.args.area.now) s b.0 in
    let e = unhex_at l.i s (omega arith) in
    let was = take_more_set l.area l.i c.pair.result (omega arith) in
    let is = take_more (unhex s) l.i 0 (omega arith) in
    cc

pub returns : goal.returns
returns c =
    let s = c.args.digits.now in
    let l = c.loop-i in
    let b = is_bytes (length c.args.area.now) s c.requires in
    let n = unhex_length (length c.args.area.now) s b.0 in
    sym (take_all l.i l.area (omega arith)) ∙ l.invariant ∙ take_all l.i (unhex s) (omega arith)
