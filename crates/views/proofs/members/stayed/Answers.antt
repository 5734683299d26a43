use mathlib.Core.Path.{sym, ap, ◌∙◌}
use native.Mathlib.Omega.{arith}
use Rattle.lists.proofs.Tests.{by_eq, clash, yes_first, no_first}
use Rattle.words.specs.Words.{words}
use Rattle.layout.specs.Contents.{Status, Brick}
use Rattle.layout.specs.Store.{decode}
use Rattle.lent.proofs.Places.{zero_blank}
use Rattle.views.proofs.members.stayed.Goals as goal

pub status-requires : goal.status-requires
status-requires c =
    let s = decode (words c.args.store.now) in
    let up = sym c.is_up.ensures ∙ c.if-is_up.true in (
      c.requires.0,
      c.requires.1,
      by_eq (s.ids c.args.place) 0
          (λ _ e. clash (ap (λ (b : Brick). b.status.up) (zero_blank c.args.settings c.args.store.now c.requires.0 (s.ids c.args.place) e)) up)
          (λ _ n. omega arith),
    )

pub returns-then-is_up : goal.returns-then-is_up
returns-then-is_up c =
    ap (λ (k : Status). k.began) c.status.ensures ∙ sym (yes_first _ _ (sym c.is_up.ensures ∙ c.if-is_up.true))

pub returns-else-is_up : goal.returns-else-is_up
returns-else-is_up c = c.if-is_up.false ∙ sym (no_first _ _ (sym c.is_up.ensures ∙ c.if-is_up.false))
