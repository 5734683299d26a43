use mathlib.Core.Path.{◌∙◌, ap}
use Prim.Native.Nat.{ℕ, ◌+◌, ◌*◌}
use lib.ListN.{get_or}
use Rattle.words.specs.Words.{words}
use Rattle.chunk_log.proofs.key_by.Goals as goal

pub returns : goal.returns
returns c =
    let w = words c.args.log.now in
    c.read.ensures ∙ ap (λ (p : ℕ). get_or w (1 + 2 * p) 0) c.read-p.ensures
