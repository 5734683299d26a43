use borrow.Author.Rules.{rules}
use mathlib.Core.Path.{refl, ◌∙◌}
use native.Mathlib.Omega.{arith}
use Rattle.lists.proofs.Runs.{below_of}
use Rattle.chunk_log.proofs.Check.{looser}
use Rattle.chunk_log.proofs.Steps.{save_leaves, save_none}
use Rattle.chunk_log.proofs.save_key.Goals as goal

pub find-requires : goal.find-requires
find-requires c = looser (omega arith) c.requires

pub returns-in-Some : goal.returns-in-Some
returns-in-Some c =
    c.write.ensures ∙ save_leaves c.args.chunks c.args.width c.args.log.now c.requires
    (below_of 256 c.args.log.now (λ i. search rules)) c.args.k.0 _ _ (rw c.in-Some.is at c.find.ensures.found) refl

pub returns-in_default : goal.returns-in_default
returns-in_default c =
    save_none c.args.chunks c.args.width c.args.log.now c.requires (below_of 256 c.args.log.now (λ i. search rules))
    c.args.k.0 (rw c.in_default.is at c.find.ensures.found)
