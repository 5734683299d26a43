use mathlib.Core.Path.{◌≡◌, refl, ap, ◌∙◌}
use mathlib.Core.List.{List, ◌++◌}
use mathlib.Core.Bool.{false}
use Prim.Native.Nat.{ℕ, ◌*◌, ◌-◌}
use native.Mathlib.Omega.{arith}
use lib.ListN.{length, take, drop}
use Rattle.words.specs.Words.{words}
use Rattle.rules.specs.declared.settings.Settings.{Settings}
use Rattle.rules.specs.Chunks.{only_saved}
use Rattle.layout.specs.Contents.{Status, Place}
use Rattle.layout.specs.Layout.{place_codec, all_copies_at}
use Rattle.layout.proofs.Foci.{log_of}
use Rattle.records.specs.Records.{with_status}
use Rattle.lent.specs.Parts.{all_matched}
use Rattle.lent.proofs.PlaceSteps.{all_copies_of, copies_fit, log_fits, step_changed}
use Rattle.membership.specs.Places.{fallen, restored, crashed}
use Rattle.membership.proofs.CrashSteps.{unbuffered, buffer_step}
use Rattle.membership.proofs.crash.crash_place.Goals as goal
use Rattle.membership.proofs.crash.crash_place.Goals.{After-restore_all, After-write}

-- bytes v are the part with its place changed by f
record Now (settings : Settings) (part : List ℕ) (f : Place → Place) (v : List ℕ) : Type 0 where
  same : words v ≡ (place_codec settings).enc (f ((place_codec settings).dec (words part))) (words part)
  long : length v ≡ length part

-- the status and the buffer were written
emptied : (c : After-write) → Now c.args.settings c.args.part.now unbuffered c.write.new.s
emptied c =
    let w = words c.args.part.now in
    let codec = place_codec c.args.settings in record {
      same = c.write.ensures ∙ buffer_step c.args.settings c.args.part.now c.requires _
          (c.write_status.ensures ∙ ap (λ (s : Status). codec.enc (with_status (fallen s) (codec.dec w)) w) c.read_status-old.ensures);
      long = omega arith;
    }

-- and the copies
abbrev restored_bytes : After-restore_all → List ℕ
restored_bytes c =
    let v = c.write.new.s in
    let from = 8 * all_copies_at in
    take from v ++ (c.restore_all.new.copies ++ drop (8 * c.log_at-log.result - from) (drop from v))

matched : (c : After-restore_all) → Now c.args.settings c.args.part.now unbuffered c.write.new.s
    → let old = (place_codec c.args.settings).dec (words c.args.part.now) in
    words (restored_bytes c) ≡ (place_codec c.args.settings).enc (restored old) (words c.args.part.now)
matched c before =
    let t = c.args.settings in
    let old = (place_codec t).dec (words c.args.part.now) in
    let done = c.restore_all in
    step_changed t c.args.part.now c.requires (unbuffered old) _ before.same before.long (8 * all_copies_at) (8 * c.log_at-log.result)
    (all_copies_of t) ((refl, c.requires.filled), ((refl, refl), refl)) refl refl (omega (arith, c.log_at-log.ensures)) (restored old)
    ((refl, c.requires.filled), ((refl, refl), refl)) (all_matched false) refl done.new.copies done.auto.copies done.ensures

pub restore_all-requires : goal.restore_all-requires
restore_all-requires c =
    let before = emptied (goal.at.restore_all-requires c).After-write in
    copies_fit c.args.settings c.args.part.now c.requires _ _ before.same before.long (8 * all_copies_at) (8 * c.log_at-log.result) c.requires.filled
    refl refl (omega (arith, c.log_at-log.ensures))

pub keep_saved-requires : goal.keep_saved-requires
keep_saved-requires c =
    let at = goal.at.keep_saved-requires c in
    let before = emptied at.After-write in
    let s = c.args.part.now in
    log_fits c.args.settings s c.requires _ _ (matched at.After-restore_all before) (omega (arith, before.long)) (8 * c.log_at-log.result) (length s) c.requires.filled refl
    (omega (arith, c.log_at-log.ensures)) refl

pub returns : goal.returns
returns c =
    let at = goal.at.returns c in
    let before = emptied at.After-write in
    let t = c.args.settings in
    let s = c.args.part.now in
    let log_at = c.log_at-log.ensures in
    let old = (place_codec t).dec (words s) in
    let done = c.keep_saved in
    step_changed t s c.requires (restored old) _ (matched at.After-restore_all before) (omega (arith, before.long)) (8 * c.log_at-log.result) (length s) (log_of t)
    ((refl, c.requires.filled), ((refl, refl), refl)) refl (omega (arith, log_at)) (omega (arith, c.requires.size, log_at)) (crashed old)
    ((refl, c.requires.filled), ((refl, refl), refl)) only_saved refl done.new.log done.auto.log done.ensures
