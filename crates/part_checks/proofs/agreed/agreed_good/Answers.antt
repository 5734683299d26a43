use Rattle.lists.specs.Tests.{◌and◌}
use Rattle.part_checks.proofs.AgreedLaws.{agreed_is}
use Rattle.part_checks.proofs.agreed.agreed_good.Goals as goal

pub returns : goal.returns
unfolding ◌and◌
returns c =
    rw (
      agreed_is _ _,
      c.pair_good-pair.ensures,
      c.pair_good-last.ensures,
      c.read.ensures,
      c.read-2.ensures,
      c.read-3.ensures,
      c.read-4.ensures,
      c.read-ready.ensures,
      c.read-fetched.ensures,
      c.read-last_sent.ensures,
      c.read-taken.ensures,
    )
