use mathlib.Core.Path.{◌≡◌, sym, ap, ◌∙◌}
use mathlib.Core.Bool.{false}
use Rattle.words.specs.Words.{words}
use Rattle.layout.specs.Contents.{Agreed}
use Rattle.layout.specs.Store.{decode}
use Rattle.rules.specs.Derived.{up_member}
use Rattle.recovery.proofs.Questions.{source_first, source_second, source_none}
use Rattle.recovery.proofs.member.find_source.Goals as goal
use Rattle.recovery.proofs.member.find_source.Goals.{Else-up_member}

-- the last ready primary is no up member
not_first : (c : Else-up_member) → let s = decode (words c.args.store.now) in up_member s (s.bucket c.args.bucket).last_primary ≡ false
not_first c =
    ap (λ (k : Agreed). up_member (decode (words c.args.store.now)) k.last_primary) (sym c.agreed-agreed.ensures) ∙ sym c.up_member.ensures
    ∙ c.if-up_member.false

pub returns-then-up_member : goal.returns-then-up_member
returns-then-up_member c =
    let s = decode (words c.args.store.now) in
    let up = sym c.up_member.ensures ∙ c.if-up_member.true in (
      ap (λ (k : Agreed). k.last_primary) c.agreed-agreed.ensures
          ∙ source_first s c.args.bucket (ap (λ (k : Agreed). up_member s k.last_primary) (sym c.agreed-agreed.ensures) ∙ up),
      up,
    )

pub returns-then-up_member-2 : goal.returns-then-up_member-2
returns-then-up_member-2 c =
    let s = decode (words c.args.store.now) in
    let up = sym c.up_member-2.ensures ∙ c.if-up_member-2.true in (
      ap (λ (k : Agreed). k.last_backup) c.agreed-agreed.ensures
          ∙ source_second s c.args.bucket (not_first (goal.at.returns-then-up_member-2 c).Else-up_member)
          (ap (λ (k : Agreed). up_member s k.last_backup) (sym c.agreed-agreed.ensures) ∙ up),
      up,
    )

pub returns : goal.returns
returns c =
    let s = decode (words c.args.store.now) in
    let second = ap (λ (k : Agreed). up_member s k.last_backup) (sym c.agreed-agreed.ensures) ∙ sym c.up_member-2.ensures ∙ c.if-up_member-2.false in
    source_none s c.args.bucket (not_first (goal.at.returns c).Else-up_member) second
