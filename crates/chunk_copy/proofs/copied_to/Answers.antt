use Rattle.std.proofs.Common.{rules, tests}
use Rattle.words.specs.Words.{words}
use Rattle.layout.specs.Store.{decode}
use Rattle.chunk_copy.proofs.Copies.{by_target, copy_found, copy_none}
use Rattle.chunk_copy.proofs.copied_to.Goals as goal

pub returns : goal.returns
returns c =
    let a = c.args in
    let s = decode (words a.store.now) in
    by_target a.settings s a.key.0 c.target-target.result _ _ c.target-target.ensures c.filter.ensures
    (λ p h q. copy_found a.settings s a.key.0 p h q.0 c.filter.result (search (rules, tests)) (search rules))
    (λ z e. copy_none a.settings s a.key.0 c.filter.result z e)
