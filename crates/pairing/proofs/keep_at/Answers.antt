use Rattle.pairing.proofs.Laws.{keep_lone, keep_primary}
use Rattle.pairing.proofs.keep_at.Goals as goal

pub returns-then-primary-eq0 : goal.returns-then-primary-eq0
returns-then-primary-eq0 c =
    keep_lone c.args.members.now c.args.bucket c.args.assigned.now c.kept_id-primary.result c.kept_id-backup.result
    c.kept_id-primary.ensures c.kept_id-backup.ensures c.if-primary-eq0.true

pub returns : goal.returns
returns c =
    keep_primary c.args.members.now c.args.bucket c.args.assigned.now c.kept_id-primary.result c.kept_id-backup.result
    c.kept_id-primary.ensures c.kept_id-backup.ensures c.if-primary-eq0.false
