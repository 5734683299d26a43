use mathlib.Core.Path.{refl, ap, ◌∙◌}
use native.Mathlib.Omega.{arith}
use Rattle.words.specs.Words.{words}
use Rattle.words.proofs.Laws.{length_words, words_part}
use Rattle.layout.specs.Layout.{status_codec, status_words, up_at}
use Rattle.records.proofs.Change.{status_seen}
use Rattle.records.proofs.place.read_status.Goals as goal

pub returns : goal.returns
returns c =
    let s = c.args.part.now in
    c.read.ensures ∙ ap status_codec.dec (words_part s 8 40 up_at status_words refl refl (omega (arith, c.requires.0)))
    ∙ status_seen c.args.settings (words s) (length_words s ∙ omega (arith, c.requires.0)) c.requires.1
