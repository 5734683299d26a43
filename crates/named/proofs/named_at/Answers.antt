use mathlib.Core.Path.{sym, ap, ◌∙◌}
use Rattle.layout.specs.Contents.{Agreed}
use Rattle.named.proofs.Copies.{named_ready, named_none}
use Rattle.named.proofs.named_at.Goals as goal

pub returns-then-agreed : goal.returns-then-agreed
returns-then-agreed c =
    let a = c.args in
    let r = c.agreed-agreed.ensures in
    named_ready a.settings a.store.now c.requires.0 a.bucket c.requires.1 _ _ (sym (ap (λ (x : Agreed). x.ready) r) ∙ c.if-agreed.true)
    (sym (ap (λ (x : Agreed). x.primary) r)) c.memory_at.ensures

pub returns : goal.returns
returns c =
    let a = c.args in
    named_none a.settings a.store.now c.requires.0 a.bucket c.requires.1
    (sym (ap (λ (x : Agreed). x.ready) c.agreed-agreed.ensures) ∙ c.if-agreed.false)
