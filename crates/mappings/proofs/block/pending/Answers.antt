use mathlib.Core.Path.{◌≡◌, sym, ap, ◌∙◌}
use mathlib.Core.Bool.{not}
use Prim.Native.Nat.{ℕ}
use Rattle.words.specs.Words.{words}
use Rattle.rules.specs.Derived.{bucket_at, pending}
use Rattle.layout.specs.Store.{decode}
use Rattle.lent.proofs.Buckets.{number_is}
use Rattle.mappings.proofs.Agreement.{ready_pending, unready}
use Rattle.mappings.proofs.block.pending.Goals as goal

pub returns-then-agreed : goal.returns-then-agreed
returns-then-agreed c =
    let of_block : pending ((decode (words c.args.store.now)).bucket c.number-bucket.result) c.args.block.0
    ≡ pending (bucket_at (decode (words c.args.store.now)) c.args.block.0) c.args.block.0 = ap (λ (g : ℕ). pending ((decode (words c.args.store.now)).bucket g) c.args.block.0)
    (c.number-bucket.ensures.0 ∙ number_is c.args.settings c.args.store.now c.requires c.args.block.0) in
    let k = (decode (words c.args.store.now)).bucket c.number-bucket.result in
    ap not c.agree.ensures ∙ ready_pending k _ c.agreed-agreed.ensures c.args.block.0 c.if-agreed.true ∙ of_block

pub returns : goal.returns
returns c =
    let of_block : pending ((decode (words c.args.store.now)).bucket c.number-bucket.result) c.args.block.0
    ≡ pending (bucket_at (decode (words c.args.store.now)) c.args.block.0) c.args.block.0 = ap (λ (g : ℕ). pending ((decode (words c.args.store.now)).bucket g) c.args.block.0)
    (c.number-bucket.ensures.0 ∙ number_is c.args.settings c.args.store.now c.requires c.args.block.0) in
    let k = (decode (words c.args.store.now)).bucket c.number-bucket.result in
    sym (unready k _ c.agreed-agreed.ensures c.args.block.0 c.if-agreed.false) ∙ of_block
