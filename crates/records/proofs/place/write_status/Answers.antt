use mathlib.Core.Path.{refl, ◌∙◌}
use native.Mathlib.Omega.{arith}
use Rattle.words.specs.Words.{words}
use Rattle.words.proofs.Laws.{length_words, lent_run}
use Rattle.layout.specs.Layout.{status_codec, status_words, up_at}
use Rattle.records.specs.Records.{status_of}
use Rattle.records.proofs.Change.{status_changed}
use Rattle.records.proofs.place.write_status.Goals as goal

pub returns : goal.returns
returns c =
    let s = c.args.part.now in
    let new = status_of c.args.status in
    lent_run s c.write.new.part 8 40 up_at status_words (status_codec.enc new) refl refl (omega (arith, c.requires.0)) (omega arith)
    c.write.ensures
    ∙ status_changed c.args.settings (words s) (length_words s ∙ omega (arith, c.requires.0)) c.requires.1 c.requires.2 new
