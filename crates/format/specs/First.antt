-- The parts of the state that format makes.
use Rattle.std.specs.Prelude.{[], true, false, ℕ, ◌+◌, ◌*◌}
use Rattle.rules.specs.declared.settings.Settings.{Settings}
use Rattle.rules.specs.Pairs.{Assignments, id_in}
use Rattle.codec.specs.Codec.{◌&◌}
use Rattle.layout.specs.Contents.{Head, Agreed, Status, Brick, Place, blank_copies}

-- the view number is 1; ids 1 to N are given, and the view begins with those bricks
abbrev pub first_head : Settings → Head
first_head c = record { settings = c; view = 1; given = c.places; started = c.places }

-- a bucket is ready; its pair is the last ready one
abbrev pub first_agreed : ℕ → ℕ → Agreed
first_agreed p b = record { primary = p; backup = b; last_primary = p; last_backup = b; ready = true; fetched = false; last_sent = 0; taken = 0 }

-- the pairs are those in the assignments
abbrev pub agreed_in : Assignments → ℕ → Agreed
agreed_in assigned g = first_agreed (id_in assigned (2 * g)) (id_in assigned (2 * g + 1))

abbrev pub first_status : Status
first_status = record { up = true; member = true; began = true; next = 0; ceiling = 0 }

-- a brick that holds nothing yet
abbrev pub new_brick : Status → Brick
new_brick status = record { present = true; status = status; buffer = []; copies = λ g. blank_copies; log = [] }

abbrev pub first_brick : Brick
first_brick = new_brick first_status

-- place p holds brick p + 1
abbrev pub first_place : ℕ → Place
first_place p = p + 1 & first_brick
