use mathlib.Core.Path.{◌≡◌, refl, ap, ◌∙◌}
use Rattle.words.specs.Words.{words}
use Rattle.layout.specs.Contents.{Status, Place}
use Rattle.layout.specs.Layout.{place_codec}
use Rattle.records.specs.Records.{status_of, with_status}
use Rattle.writes.specs.Logs.{with_chunk}
use Rattle.writes.specs.Puts.{counted}
use Rattle.writes.proofs.Logs.{append_fits, log_grown}
use Rattle.writes.proofs.Puts.{status_counted}
use Rattle.writes.proofs.put.put_place.Goals as goal
use Rattle.writes.proofs.put.put_place.Goals.{After-write_status}

-- the place once its brick is counted one chunk more
abbrev new : After-write_status → Place
new c = let old = (place_codec c.args.settings).dec (words c.args.part.now) in with_status (counted old.snd.status) old

same : (c : After-write_status) → words c.write_status.new.part ≡ (place_codec c.args.settings).enc (new c) (words c.args.part.now)
same c =
    let codec = place_codec c.args.settings in
    let w = words c.args.part.now in
    let old = codec.dec w in
    let read = c.read_status-old in
    c.write_status.ensures
    ∙ ap (λ (r : Status). codec.enc (with_status r old) w)
    (status_counted (status_of read.result) old.snd.status _ _ read.ensures refl c.raised.ensures)

pub append-requires : goal.append-requires
append-requires c =
    let at = (goal.at.append-requires c).After-write_status in
    append_fits c.args.settings c.args.part.now c.requires.brick (new at) c.requires.brick.filled refl _ (same at) c.write_status.auto.part
    c.args.bytes.now c.requires.room c.requires.size

pub returns : goal.returns
returns c =
    let at = (goal.at.returns c).After-write_status in
    c.append.ensures
    ∙ log_grown c.args.settings c.args.part.now c.requires.brick (new at) c.requires.brick.filled refl _ (same at) c.write_status.auto.part
    (with_chunk c.args.key.0 c.args.bytes.now)
