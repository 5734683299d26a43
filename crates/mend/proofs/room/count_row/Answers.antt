use mathlib.Core.Path.{refl, ap, ◌∙◌}
use mathlib.Core.Bool.{Bool, cond}
use native.Mathlib.Omega.{arith}
use Rattle.lists.proofs.Tests.{flag_word}
use Rattle.mend.proofs.room.count_row.Goals as goal

pub returns-then-row-base : goal.returns-then-row-base
returns-then-row-base c = record { earlier = λ _. (refl, refl, refl); within = λ l _. absurd (omega arith); later = λ l. absurd (omega arith) }

pub returns-then-at-ge-PART_ROWS : goal.returns-then-at-ge-PART_ROWS
returns-then-at-ge-PART_ROWS c = record { earlier = λ l. absurd (omega arith); within = λ _ l. absurd (omega arith); later = λ _. (refl, refl, refl) }

pub returns : goal.returns
returns c =
    let raise = c.raise-new in
    record {
      earlier = λ l. absurd (omega arith);
      within = λ _ _. (flag_word raise.result ∙ ap (λ (b : Bool). cond b 1 0) raise.ensures.0, refl, raise.ensures.1);
      later = λ l. absurd (omega arith);
    }
