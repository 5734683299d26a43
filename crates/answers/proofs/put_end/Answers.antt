use mathlib.Core.Path.{refl}
use mathlib.Core.List.{[], ◌∷◌}
use Prim.Native.Nat.{◌+◌}
use native.Mathlib.Omega.{arith}
use Rattle.text.specs.Fields.{comma}
use Rattle.area.proofs.Laws.{onto_then}
use Rattle.answers.specs.Answers.{data_text}
use Rattle.answers.proofs.Laws.{data_short}
use Rattle.answers.proofs.put_end.Goals as goal

-- `answers::put_end` meets its contract.

pub returns : goal.returns
returns c =
    let a = c.args in
    let d = a.«data».now in
    let p = c.put in
    let w = c.put_data-end in
    let f = c.put-2 in
    let s = data_short d in (
      omega (arith, w.ensures.0),
      onto_then a.at w.result (comma ∷ data_text d) (10 ∷ []) a.area.now w.new.area f.new.area
          (omega (arith, c.requires))
          (omega (arith, w.ensures.0))
          (onto_then a.at (a.at + 1) (comma ∷ []) (data_text d) a.area.now p.new.area w.new.area
          (omega (arith, c.requires)) refl
          p.ensures
          w.ensures.1) f.ensures,
    )
