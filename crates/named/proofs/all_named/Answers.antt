use mathlib.Core.Path.{refl, ◌∙◌}
use native.Mathlib.Omega.{arith}
use borrow.Author.Count.{below_none}
use borrow.Author.Rules.{rules}
use Rattle.words.specs.Words.{words}
use Rattle.layout.specs.Store.{decode}
use Rattle.named.proofs.Copies.{named_more}
use Rattle.named.proofs.all_named.Goals as goal

pub loop-bucket-init : goal.loop-bucket-init
loop-bucket-init c = (refl, below_none _)

pub loop-bucket-preserved : goal.loop-bucket-preserved
loop-bucket-preserved c =
    let a = c.args in (
      search rules,
      named_more a.settings (words a.store.now) (decode (words a.store.now)) c.loop-bucket.tables c.loop-bucket.bucket _ (omega arith) c.loop-bucket.invariant.1
          c.named_at.ensures,
    )

pub returns : goal.returns
returns c =
    record { store = c.requires.0; many = c.loop-bucket.invariant.0 ∙ c.requires.1; lie = λ g p. c.loop-bucket.invariant.1 g (omega arith) }
