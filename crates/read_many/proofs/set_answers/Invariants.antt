use Rattle.read_many.proofs.Answers.{Written}
use Rattle.read_many.proofs.set_answers.Given as goal

abbrev pub invariant-loop-block : goal.invariant-loop-block
invariant-loop-block l = Written l.settings.size l.store l.proxy l.blocks l.initial.answers l.answers l.block-index l.at
