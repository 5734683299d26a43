use mathlib.Core.Path.{ap, ◌∙◌}
use Prim.Native.Nat.{ℕ}
use Rattle.words.specs.Words.{words}
use Rattle.rules.specs.Entries.{key_for}
use Rattle.layout.specs.Contents.{Agreed}
use Rattle.layout.specs.Store.{decode}
use Rattle.lent.proofs.Buckets.{number_is}
use Rattle.mappings.proofs.block.mapped.Goals as goal

pub returns : goal.returns
returns c =
    let state = decode (words c.args.store.now) in
    let b = c.args.block.0 in
    let n = c.number-bucket.result in
    c.in_memory.ensures ∙ ap (λ (a : Agreed). key_for ((state.bucket n).memory a.primary) b) c.agreed-primary.ensures
    ∙ ap (λ (g : ℕ). key_for ((state.bucket g).memory (state.bucket g).primary) b)
    (c.number-bucket.ensures.0 ∙ number_is c.args.settings c.args.store.now c.requires b)
