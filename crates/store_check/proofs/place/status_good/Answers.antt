use Rattle.lists.specs.Tests.{◌and◌}
use Rattle.store_check.proofs.PlaceLaws.{status_words_sound}
use Rattle.store_check.proofs.place.status_good.Goals as goal

pub returns : goal.returns
unfolding ◌and◌
returns c =
    rw (
      ← (status_words_sound _),
      c.read-up.ensures,
      c.read-member.ensures,
      c.read-began.ensures,
      c.read-next.ensures,
      c.read-ceiling.ensures,
    )
