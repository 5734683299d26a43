use mathlib.Core.Path.{sym, ap, ◌∙◌}
use native.Mathlib.Omega.{arith}
use Rattle.words.specs.Words.{words}
use Rattle.layout.specs.Contents.{Status}
use Rattle.recovery.proofs.PlaceLaws.{outside_down, outside_primary, outside_backup, outside_up, place_stays, place_drops, empty_stays}
use Rattle.recovery.proofs.others.drop_at.Goals as goal
use Rattle.recovery.proofs.others.drop_at.Goals.{then-id-eq0-via-then-id-eq0, then-id-eq0-via-else-id-eq0+then-id-primary, then-id-eq0-via-else-id-eq0+else-id-primary+then-id-backup}

pub id-id-requires : goal.id-id-requires
id-id-requires c =
    c.requires.0.size

pub returns-then-id-eq0 : goal.returns-then-id-eq0
returns-then-id-eq0 c =
    let stays = place_stays c.args.settings c.args.bucket c.requires.1 (words c.args.part.now) c.requires.0.clean c.args.primary c.args.backup in
    elim c.then-id-eq0.branch [
      | then-id-eq0-via-then-id-eq0 w ↦
          empty_stays c.args.settings c.args.bucket c.requires.1 (words c.args.part.now) c.requires.0.clean c.args.primary c.args.backup
          (sym c.id-id.ensures ∙ w.if-id-eq0.true)
      | then-id-eq0-via-else-id-eq0+then-id-primary w ↦ stays (outside_primary c.args.primary c.args.backup _ _ (sym c.id-id.ensures ∙ w.if-id-primary.true))
      | then-id-eq0-via-else-id-eq0+else-id-primary+then-id-backup w ↦ stays (outside_backup c.args.primary c.args.backup _ _ (sym c.id-id.ensures ∙ w.if-id-backup.true))
    ]

pub read_status-status-requires : goal.read_status-status-requires
read_status-status-requires c = (
  c.requires.0.size,
  omega
      (arith, c.id-id.ensures, c.if-id-eq0.false),
)

pub empty-requires : goal.empty-requires
empty-requires c =
    (c.requires.0, c.requires.1, omega (arith, c.id-id.ensures, c.if-id-eq0.false))

pub returns-then-status : goal.returns-then-status
returns-then-status c =
    let up = sym (ap (λ (k : Status). k.up) c.read_status-status.ensures) ∙ c.if-status.true in
    place_drops c.args.settings c.args.bucket c.requires.1 (words c.args.part.now) c.requires.0.clean c.args.primary c.args.backup
    (outside_up c.args.primary c.args.backup _ _ up (λ z. c.if-id-primary.false (c.id-id.ensures ∙ z)) (λ z. c.if-id-backup.false (c.id-id.ensures ∙ z)))
    _ c.empty.ensures

pub returns-else-status : goal.returns-else-status
returns-else-status c =
    place_stays c.args.settings c.args.bucket c.requires.1 (words c.args.part.now) c.requires.0.clean c.args.primary c.args.backup
    (outside_down c.args.primary c.args.backup _ _ (sym (ap (λ (k : Status). k.up) c.read_status-status.ensures) ∙ c.if-status.false))
