use Rattle.lists.specs.Tests.{◌and◌}
use Rattle.rules.specs.Sound.{sound_relay, in_bucket}
use Rattle.part_checks.proofs.bag.relay_good.Goals as goal

pub returns : goal.returns
unfolding sound_relay in_bucket ◌and◌
returns c =
    rw (
      c.key_below-key.ensures,
      c.bucket-home.ensures,
      c.read-view.ensures,
      c.read-bucket.ensures,
      c.read-order.ensures,
      c.read-block.ensures,
      c.read.ensures,
    )
