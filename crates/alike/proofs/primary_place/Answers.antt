use mathlib.Core.Path.{ap, subst}
use Prim.Native.Nat.{ℕ}
use Rattle.words.specs.Words.{words}
use Rattle.layout.specs.Contents.{Agreed}
use Rattle.layout.specs.Store.{decode}
use Rattle.lent.specs.Places.{PlaceOf}
use Rattle.alike.proofs.primary_place.Goals as goal

pub returns : goal.returns
returns c =
    subst (λ (i : ℕ). PlaceOf c.args.settings (decode (words c.args.one.now)) i c.place_of.result)
    (ap (λ (a : Agreed). a.primary) c.agreed-agreed.ensures) c.place_of.ensures
