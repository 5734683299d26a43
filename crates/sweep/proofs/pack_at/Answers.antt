use Rattle.words.specs.Words.{words}
use Rattle.sweep.proofs.Steps.{packed_yes, packed_no}
use Rattle.sweep.proofs.pack_at.Goals as goal

pub returns-then-v-eq1 : goal.returns-then-v-eq1
returns-then-v-eq1 c =
    packed_yes c.args.chunks c.args.width c.args.i c.args.o (words c.args.log.now) c.read-key.result
    c.read-v.result c.read-key.ensures c.read-v.ensures (words c.write.new.s)
    c.write.ensures (words c.write-then-v-eq1.new.s) (words c.write-then-v-eq1-2.new.s)
    (words c.carry_cell.new.log) c.if-v-eq1.true c.write-then-v-eq1.ensures c.write-then-v-eq1-2.ensures
    c.carry_cell.ensures

pub returns : goal.returns
returns c =
    packed_no c.args.chunks c.args.width c.args.i c.args.o (words c.args.log.now) c.read-key.result
    c.read-v.result c.read-key.ensures c.read-v.ensures (words c.write.new.s)
    c.write.ensures c.if-v-eq1.false
