use Rattle.std.proofs.Common.{arith}
use Rattle.relay_list.proofs.Shown.{sound_one, has_records, handed, hidden}
use Rattle.relay_list.proofs.show.Goals as goal

pub bag_bytes-part-requires : goal.bag_bytes-part-requires
bag_bytes-part-requires c = sound_one c.args.store.now c.args.list.now c.in-Ok.ensures

pub load-count-requires : goal.load-count-requires
load-count-requires c =
    let few = has_records c.args.store.now c.args.list.now c.in-Ok.ensures in
    (c.bag_bytes-part.ensures.table, omega (arith, few, c.bag_bytes-part.ensures.count))

pub returns-in-Ok : goal.returns-in-Ok
returns-in-Ok c =
    handed c.args.store.now c.args.list.now c.in-Ok.ensures c.bag_bytes-part.result.now c.load-count.result c.load-count.new.list
    c.bag_bytes-part.ensures c.load-count.ensures

pub returns-in-Err : goal.returns-in-Err
returns-in-Err c = rw c.from.ensures (hidden c.args.store.now c.args.list.now c.in-Err.refusal c.in-Err.ensures)
