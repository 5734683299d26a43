use Rattle.mend.proofs.Flagged.{raised_now}
use Rattle.mend.proofs.room.raise.Goals as goal

pub returns : goal.returns
returns c = raised_now c.args.flags.now c.args.row c.args.place (c.slice_known-1.given c.args.row).fits c.requires.1
