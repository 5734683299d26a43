use Rattle.std.proofs.Common.{◌≡◌, true, ℕ, ltb, length, sym, ap, ◌∙◌, rules, tests}
use Rattle.words.specs.Words.{words}
use Rattle.rules.specs.Limits.{max_waiting}
use Rattle.layout.specs.Contents.{Brick, entry_row}
use Rattle.layout.specs.Store.{decode}
use Rattle.entries.proofs.Tables.{count_is}
use Rattle.lent.proofs.LookUps.{by_place}
use Rattle.mappings.proofs.buffer.has_room.Goals as goal

pub returns : goal.returns
returns c =
    let a = c.args in
    let s = decode (words a.store.now) in
    by_place a.settings s a.id c.place_of.result _ _ c.place_of.ensures c.is_none_or.ensures
    (λ p h q. let e : c.is_none_or.result ≡ ltb (length (s.bricks.buffer (s.ids p))) max_waiting = search (rules, tests, count_is entry_row max_waiting) in e ∙ ap (λ (i : ℕ). ltb (length (s.bricks.buffer i)) max_waiting) h.here)
    (λ b e. let y : c.is_none_or.result ≡ true = search (rules, tests) in y ∙ sym (ap (λ (x : Brick). ltb (length x.buffer) max_waiting) b))
