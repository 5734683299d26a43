use Rattle.std.proofs.Common.{arith, ◌∙◌, length}
use Rattle.words.specs.Words.{words}
use Rattle.words.proofs.Laws.{length_words}
use Rattle.entries.proofs.Words.{has_spot}
use Rattle.entries.proofs.has.Goals as goal

pub returns : goal.returns
returns c =
    c.is_ok.ensures.value ∙ has_spot c.args.most (words c.args.t.now) (length c.args.t.now) (length_words c.args.t.now ∙ omega arith)
    c.requires c.args.b.0 c.find.result c.find.ensures
