use Rattle.pairing.proofs.Laws.{assigned}
use Rattle.pairing.proofs.assign.Goals as goal

pub returns : goal.returns
returns c =
    let c1 = c.keep_all in
    let c2 = c.fill_all in
    let c3 = c.walk in
    let c4 = c.walk-2 in
    assigned c.args.count c.args.members.now c.args.assigned.now c1.new.assigned c2.new.assigned c3.new.assigned c4.new.assigned
    c.fair_share-share.result
    c1.ensures c2.ensures c.fair_share-share.ensures c3.ensures c4.ensures
