use Rattle.words.specs.Words.{words}
use Rattle.chunk_log.proofs.Steps.{enter_steps}
use Rattle.chunk_log.proofs.enter.Goals as goal

pub returns : goal.returns
returns c =
    enter_steps c.args.chunks c.args.n c.args.p c.args.key c.args.saved (words c.args.log.now)
    (words c.move_up.new.s) (words c.write.new.s) (words c.write-2.new.s)
    (words c.write-3.new.s) (words c.write-4.new.s) c.move_up.ensures c.write.ensures
    c.write-2.ensures c.write-3.ensures c.write-4.ensures
