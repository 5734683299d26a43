use borrow.Author.Rules.{rules}
use mir.Val.{bool_byte}
use native.Mathlib.Omega.{arith}
use Rattle.lists.proofs.Runs.{below_of}
use Rattle.lists.proofs.Tests.{flag_word}
use Rattle.chunk_log.proofs.Steps.{append_leaves}
use Rattle.chunk_log.proofs.append_in_place.Goals as goal

pub lower_bound-p-requires : goal.lower_bound-p-requires
lower_bound-p-requires c = record { n_le_chunks = (omega arith, omega arith); ordered = rw c.read-n.ensures c.requires.0.order }

pub returns : goal.returns
returns c =
    append_leaves c.args.chunks c.args.width c.args.log.now c.requires.0
    (below_of 256 c.args.log.now (λ i. search rules)) c.read-n.result c.lower_bound-p.result c.args.key.0
    c.args.saved (bool_byte c.args.saved) c.enter.new.log (flag_word c.args.saved) c.requires.1 c.read-n.ensures
    c.lower_bound-p.ensures c.enter.ensures
