use Rattle.words.specs.Words.{words}
use Rattle.sweep.proofs.Steps.{numbered_yes, numbered_no}
use Rattle.sweep.proofs.renumber_at.Goals as goal

pub returns-then-v-eq1 : goal.returns-then-v-eq1
returns-then-v-eq1 c =
    numbered_yes c.args.chunks c.args.j c.args.o (words c.args.log.now) c.read-q.result c.read-v.result
    c.read-q.ensures c.read-v.ensures (words c.write.new.s) c.if-v-eq1.true
    c.write.ensures

pub returns : goal.returns
returns c =
    numbered_no c.args.chunks c.args.j c.args.o (words c.args.log.now) c.read-q.result
    c.read-v.result c.read-q.ensures c.read-v.ensures c.if-v-eq1.false
