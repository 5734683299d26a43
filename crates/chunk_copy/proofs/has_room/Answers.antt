use Rattle.std.proofs.Common.{◌≡◌, true, ltb, length, sym, ◌∙◌, rules, tests}
use Rattle.lists.proofs.Tests.{or_l}
use Rattle.words.specs.Words.{words}
use Rattle.layout.specs.Store.{decode}
use Rattle.chunk_copy.proofs.Copies.{by_copy, room_is}
use Rattle.chunk_copy.proofs.has_room.Goals as goal

pub returns : goal.returns
returns c =
    let a = c.args in
    let s = decode (words a.store.now) in
    by_copy a.settings s a.key.0 c.copied_to-place.result _ _ c.copied_to-place.ensures c.is_none_or.ensures
    (λ p h q. let e : c.is_none_or.result ≡ ltb (length (s.bricks.log (s.ids p))) a.settings.chunks = search (rules, tests) in e ∙ room_is a.settings a.store.now c.requires a.key.0 _ h)
    (λ n e. let y : c.is_none_or.result ≡ true = search (rules, tests) in y ∙ sym (or_l _ _ n))
