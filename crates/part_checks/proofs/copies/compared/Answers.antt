use mathlib.Core.Path.{◌≡◌, sym, ap, ◌∙◌}
use mathlib.Core.List.{List}
use Prim.Native.Nat.{ℕ, ◌+◌, ◌-◌, ◌*◌}
use Rattle.lists.specs.Runs.{run}
use native.Mathlib.Omega.{arith}
use lib.ListN.{get_or, take, drop}
use borrow.Author.Rules.{rules}
use Rattle.lists.proofs.Runs.{run_at}
use Rattle.words.specs.Words.{words}
use Rattle.rules.proofs.SoundTest.{same_entries_test}
use Rattle.layout.specs.Layout.{copy_codec, copy_words, place_at, copies_at, all_copies_at}
use Rattle.layout.proofs.Lent.{lent}
use Rattle.part_checks.proofs.CopyLaws.{AllCopies, all_copies}
use Rattle.part_checks.proofs.copies.compared.Goals as goal
use Rattle.part_checks.proofs.copies.compared.Goals.{After-copy_words}

-- the words of the copy at the other place
copy_there : (c : After-copy_words) → words (take (8 * (c.place_at.result + (all_copies_at + c.offset-from.result)) + 8 * c.copy_words.result - 8 * (c.place_at.result + (all_copies_at + c.offset-from.result)))
    (drop (8 * (c.place_at.result + (all_copies_at + c.offset-from.result))) c.args.store.now))
    ≡ run (place_at c.args.settings c.in-Some.q + copies_at c.args.settings c.args.bucket) (copy_words c.args.settings) (words c.args.store.now)
copy_there c =
    let n = c.args.settings in
    let g = c.args.bucket in
    let bs = c.args.store.now in
    let size = c.copies_words-size in
    let off = c.offset-from in
    let from = all_copies_at + off.result in
    let room : AllCopies n c.buckets.result size.result = all_copies _ _ _ c.requires.small c.buckets.ensures size.ensures in
    let at = off.ensures.0 ∙ ap (λ (k : ℕ). g * k) size.ensures in
    lent bs (8 * (c.place_at.result + from)) (8 * (c.place_at.result + from) + 8 * c.copy_words.result) (place_at n c.in-Some.q + copies_at n g) (copy_words n)
    (omega (arith, at, c.place_at.ensures.0)) (omega (arith, c.copy_words.ensures))
    (omega (arith, at, off.ensures.1, room.same, size.ensures, c.place_at.ensures, c.requires.size))

pub same_three-requires-clause-table_2 : goal.same_three-requires-clause-table_2
same_three-requires-clause-table_2 c =
    let n = c.args.settings in
    let g = c.args.bucket in
    let bs = c.args.store.now in
    let at = c.offset-from.ensures.0 ∙ ap (λ (k : ℕ). g * k) c.copies_words-size.ensures in
    let q = c.in-Some.ensures {u = tt} in
    let first = ap (λ (w : List ℕ). get_or w 0 0) (copy_there (goal.at.same_three-requires-clause-table_2 c).After-copy_words) ∙ run_at (place_at n c.in-Some.q + copies_at n g) (copy_words n) 0 (words bs) (omega arith) in
    let count = first ∙ ap (λ (k : ℕ). get_or (words bs) k 0) {x = place_at n c.in-Some.q + copies_at n g + 0} {y = place_at n c.in-Some.q + (all_copies_at + c.offset-from.result)} (omega (arith, at)) ∙ q.rows ∙ c.read.ensures in
    record { few = omega (arith, count, c.requires.few); size = search rules }

pub returns-clause-known : goal.returns-clause-known
returns-clause-known c =
    let q = c.in-Some.ensures {u = tt} in
    λ y. record {
      place = c.in-Some.q;
      below = q.inside;
      brick = q.brick;
      same = ap (copy_codec c.args.settings).dec (sym (copy_there (goal.at.returns-clause-known c).After-copy_words)) ∙ sym ((same_entries_test _ _).0 (sym c.same_three.ensures.known_value ∙ y));
    }
