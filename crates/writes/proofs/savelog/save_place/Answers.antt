use mathlib.Core.Path.{refl, sym}
use Prim.Native.Nat.{◌*◌}
use native.Mathlib.Omega.{arith}
use lib.ListN.{length}
use Rattle.words.specs.Words.{words}
use Rattle.rules.specs.Chunks.{save_all}
use Rattle.layout.specs.Layout.{place_codec}
use Rattle.layout.proofs.Foci.{log_of}
use Rattle.lent.specs.Places.{on_log}
use Rattle.lent.proofs.PlaceSteps.{log_fits, step_changed}
use Rattle.writes.proofs.savelog.save_place.Goals as goal

pub save_all-requires : goal.save_all-requires
save_all-requires c =
    let s = c.args.part.now in
    let log_at = c.log_at-at in
    log_fits c.args.settings s c.requires _ s (sym c.requires.clean) refl (8 * log_at.result) (length s) c.requires.filled refl
    (omega (arith, log_at.ensures)) refl

pub returns : goal.returns
returns c =
    let t = c.args.settings in
    let s = c.args.part.now in
    let old = (place_codec t).dec (words s) in
    let log_at = c.log_at-at in
    let done = c.save_all in
    step_changed t s c.requires old s (sym c.requires.clean) refl (8 * log_at.result) (length s) (log_of t)
    ((refl, c.requires.filled), ((refl, refl), refl)) refl (omega (arith, log_at.ensures)) (omega (arith, c.requires.size, log_at.ensures))
    (on_log save_all old) ((refl, c.requires.filled), ((refl, refl), refl)) save_all refl done.new.log done.auto.log done.ensures
