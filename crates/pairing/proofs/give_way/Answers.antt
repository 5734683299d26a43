use Rattle.pairing.proofs.Laws.{way_light, way_none, way_full, way_given}
use Rattle.pairing.proofs.give_way.Goals as goal

pub returns-then-load_of-share : goal.returns-then-load_of-share
returns-then-load_of-share c =
    way_light c.args.members.now c.args.share c.args.position c.args.other c.args.assigned.now c.load_of.result
    c.load_of.ensures c.if-load_of-share.true

pub returns-then-id-eq0 : goal.returns-then-id-eq0
returns-then-id-eq0 c =
    let v = c.args.assigned.now in
    way_none c.args.members.now c.args.share c.args.position c.args.other v c.least_loaded-id.result c.least_loaded-id.ensures
    c.if-id-eq0.true

pub returns-then-load_of-share-2 : goal.returns-then-load_of-share-2
returns-then-load_of-share-2 c =
    let v = c.args.assigned.now in
    way_given c.args.members.now c.args.share c.args.position c.args.other v c.least_loaded-id.result
    c.least_loaded-id.ensures
    c.load_of.result c.load_of-2.result c.load_of.ensures c.if-load_of-share.false c.if-id-eq0.false
    c.load_of-2.ensures c.if-load_of-share-2.true

pub returns-else-load_of-share-2 : goal.returns-else-load_of-share-2
returns-else-load_of-share-2 c =
    let v = c.args.assigned.now in
    way_full c.args.members.now c.args.share c.args.position c.args.other v c.least_loaded-id.result
    c.least_loaded-id.ensures
    c.load_of-2.result c.load_of-2.ensures c.if-load_of-share-2.false
