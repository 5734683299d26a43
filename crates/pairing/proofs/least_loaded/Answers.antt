use mathlib.Core.Path.{◌≡◌, ◌∙◌}
use mathlib.Core.List.{reverse}
use Rattle.std.specs.List.{fold}
use Rattle.rules.specs.Pairs.{choose}
use borrow.Author.Rules.{rules}
use Rattle.pairing.proofs.Laws.{least-fold}
use Rattle.pairing.proofs.least_loaded.Goals as goal

pub returns : goal.returns
returns c =
    let folded : c.fold.result ≡ fold (λ best m. choose c.args.assigned.now c.args.one c.args.two m best) 0 (reverse c.args.members.now) = search rules in
    folded ∙ least-fold c.args.assigned.now c.args.members.now c.args.one c.args.two
