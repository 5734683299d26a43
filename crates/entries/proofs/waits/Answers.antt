use Rattle.std.proofs.Common.{rules, arith, ◌≡◌, ◌∙◌, length, eqb}
use borrow.Author.Tests.{tests}
use Rattle.std.proofs.lemmas.Iterator.{YieldsList-from_range}
use Rattle.std.proofs.lemmas.Iterator.Search.{any_from_yields_List}
use Rattle.words.specs.Words.{words}
use Rattle.words.proofs.Laws.{length_words}
use Rattle.rules.specs.Entries.{Entry, entry, has}
use Rattle.lists.proofs.Ranges.{any_places}
use Rattle.entries.specs.Entries.{entry_at}
use Rattle.entries.proofs.Words.{entries, entries_length}
use Rattle.entries.proofs.waits.Goals as goal

pub returns : goal.returns
unfolding has
returns c =
    let l = entries (words c.args.t.now) in
    let n : length l ≡ c.read.result = cc (entries_length c.args.most (words c.args.t.now) (length_words c.args.t.now ∙ omega arith) c.requires.few) in
    any_from_yields_List (λ i. eqb c.args.b.0 (entry_at l i).block) _ _ c.any.result c.any.ensures.ran
    (YieldsList-from_range 0 c.read.result (length l) (cc) (omega (arith, n))) (λ x r q k. search (rules, tests))
    ∙ any_places (λ (e : Entry). eqb c.args.b.0 e.block) l (entry 0 0)
