use native.Mathlib.Omega.{arith}
use Rattle.pairing.proofs.Laws.{share_of, share_none}
use Rattle.pairing.proofs.fair_share.Goals as goal

pub returns-then-members-eq0 : goal.returns-then-members-eq0
returns-then-members-eq0 c = share_none c.args.count c.args.members c.if-members-eq0.true

pub returns : goal.returns
returns c = share_of c.args.count c.args.members (omega arith)
