use mathlib.Core.Path.{ap, ◌∙◌}
use Rattle.words.specs.Words.{words}
use Rattle.layout.specs.Contents.{Agreed}
use Rattle.layout.specs.Layout.{agreed_codec}
use Rattle.views.specs.Begin.{renewed}
use Rattle.views.proofs.record.renew.Goals as goal

pub returns : goal.returns
returns c =
    let w = words c.args.part.now in
    c.write.ensures
    ∙ ap (λ (x : Agreed). agreed_codec.enc x w)
    (c.renewed.ensures
    ∙ ap (λ (x : Agreed). renewed c.args.primary c.args.backup x) c.read-old.ensures)
