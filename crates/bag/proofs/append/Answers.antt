use mathlib.Core.Path.{◌∙◌}
use native.Mathlib.Omega.{arith}
use Rattle.words.specs.Words.{words}
use Rattle.words.proofs.Laws.{length_words}
use Rattle.bag.specs.Relays.{relay_of}
use Rattle.bag.proofs.Laws.{append_leaves}
use Rattle.bag.proofs.append.Goals as goal

pub returns : goal.returns
returns c =
    c.insert_row.ensures
    ∙ append_leaves (words c.args.t.now) (length_words c.args.t.now ∙ omega arith) c.requires.table.few
    c.read-n.result (relay_of c.args.relay) c.read-n.ensures c.requires.t_bound
