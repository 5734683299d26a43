use mathlib.Core.Path.{refl, ◌∙◌}
use mathlib.Core.List.{List}
use Prim.Native.Nat.{ℕ, ◌*◌, ◌-◌}
use native.Mathlib.Omega.{arith}
use Rattle.words.specs.Words.{words}
use Rattle.words.proofs.Laws.{length_words, lent_run}
use Rattle.layout.specs.Contents.{blank_copies}
use Rattle.layout.specs.Layout.{status_codec, all_copies_codec, status_words, all_copies_at}
use Rattle.records.specs.Records.{status_of}
use Rattle.format.proofs.First.{place_steps}
use Rattle.format.proofs.place.Goals as goal

pub returns : goal.returns
returns c =
    let t = c.args.settings in
    let s0 = c.args.s.now in
    let s1 = c.write.new.s in
    let s3 = c.write-3.new.s in
    let log = c.log_at-log in
    let copies : List ℕ → List ℕ = (all_copies_codec t).enc (λ g. blank_copies) in
    let e2 = lent_run s1 c.write-2.new.part 8 40 1 status_words (status_codec.enc (status_of c.args.status)) refl refl (omega arith) (omega arith)
    c.write-2.ensures in
    let e4 = lent_run s3 c.all_copies.new.s 568 (8 * log.result - 568) all_copies_at (all_copies_codec t).size copies refl (omega (arith, log.ensures)) (omega (arith, log.ensures))
    (omega (arith, log.ensures)) c.all_copies.ensures in
    place_steps t c.args.id (status_of c.args.status) log.result (words s0) (words s1) _ (words s3) _ _ c.requires.1 (length_words s0 ∙ omega arith) c.write.ensures e2
    c.write-3.ensures e4 log.ensures c.write-4.ensures
