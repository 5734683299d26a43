use mathlib.Core.Path.{◌∙◌}
use Rattle.words.proofs.Laws.{word_written}
use Rattle.words.proofs.write.Goals as goal

pub returns : goal.returns
returns c =
    word_written c.args.s.now c.copy_from_slice.new.self c.args.i c.args.v c.requires c.ranges.v.fits
    (c.copy_from_slice.ensures.after ∙ c.to_le_bytes.ensures)
