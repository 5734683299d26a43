use mathlib.Core.Path.{sym, ap, ◌∙◌}
use borrow.Author.Tests.{not-true, not-false}
use Rattle.words.specs.Words.{words}
use Rattle.layout.specs.Contents.{Agreed}
use Rattle.layout.specs.Store.{decode}
use Rattle.collect.proofs.SameCopies.{not_ready, not_settled_primary, not_settled_backup, nothing_pending_last}
use Rattle.collect.proofs.Collecting.{bucket_tables}
use Rattle.collect.proofs.pending.nothing_pending.Goals as goal

pub returns-then-not-agreed : goal.returns-then-not-agreed
returns-then-not-agreed c =
    let a = c.args in
    let k = (decode (words a.store.now)).bucket a.bucket in
    let t = bucket_tables a.settings a.store.now c.requires.0 a.bucket c.requires.1 in
    let r = c.agreed-agreed.ensures in
    sym (not_ready k t (sym (ap (λ (x : Agreed). x.ready) r) ∙ not-true _ c.if-not-agreed.true))

pub returns-then-not-settled : goal.returns-then-not-settled
returns-then-not-settled c =
    let a = c.args in
    let k = (decode (words a.store.now)).bucket a.bucket in
    let t = bucket_tables a.settings a.store.now c.requires.0 a.bucket c.requires.1 in
    let r = c.agreed-agreed.ensures in
    sym (not_settled_primary k t _ (sym (ap (λ (x : Agreed). x.primary) r)) (sym c.settled.ensures ∙ not-true _ c.if-not-settled.true-raw))

pub returns-then-not-settled-2 : goal.returns-then-not-settled-2
returns-then-not-settled-2 c =
    let a = c.args in
    let k = (decode (words a.store.now)).bucket a.bucket in
    let t = bucket_tables a.settings a.store.now c.requires.0 a.bucket c.requires.1 in
    let r = c.agreed-agreed.ensures in
    sym (not_settled_backup k t _ (sym (ap (λ (x : Agreed). x.backup) r)) (sym c.settled-2.ensures ∙ not-true _ c.if-not-settled-2.true-raw))

pub returns : goal.returns
returns c =
    let a = c.args in
    let k = (decode (words a.store.now)).bucket a.bucket in
    let t = bucket_tables a.settings a.store.now c.requires.0 a.bucket c.requires.1 in
    let r = c.agreed-agreed.ensures in
    c.same_memory.ensures
    ∙ sym (nothing_pending_last k t _ _ (sym (ap (λ (x : Agreed). x.primary) r)) (sym (ap (λ (x : Agreed). x.backup) r))
    (sym (ap (λ (x : Agreed). x.ready) r) ∙ not-false _ c.if-not-agreed.false) (sym c.settled.ensures ∙ not-false _ c.if-not-settled.false-raw)
    (sym c.settled-2.ensures ∙ not-false _ c.if-not-settled-2.false-raw))
