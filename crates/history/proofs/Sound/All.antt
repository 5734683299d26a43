-- Every event keeps a sound store sound, and format makes a sound one: no event of a list from format is answered 2.
use mathlib.Core.Path.{◌≡◌}
use mathlib.Core.List.{List, [], ◌∷◌}
use mathlib.Core.Bool.{true}
use Rattle.rules.specs.declared.settings.Settings.{Settings}
use Rattle.rules.specs.Limits.{in_limits}
use Rattle.rules.specs.Event.{Event}
use Rattle.rules.specs.State.{State}
use Rattle.rules.specs.Format.{format}
use Rattle.rules.specs.Step.{Outcome, rule, step, after_all}
use Rattle.rules.specs.Sound.{sound}
use Rattle.rules.proofs.Step.{Yes, Stepped, refused, accepted, stepped}
use Rattle.rules.proofs.Sound.{Sound}
use Rattle.rules.proofs.SoundTest.{facts_sound}
use Rattle.history.proofs.Sound.Writes.{put_sound, copy_sound, savelog_sound}
use Rattle.history.proofs.Sound.Maps.{map_sound, send_sound, deliver_sound, drop_sound, savemap_sound, item_goes_sound, learn_sound, reset_sound}
use Rattle.history.proofs.Sound.Membership.{crash_sound, lose_sound, rise_sound, join_sound}
use Rattle.history.proofs.Sound.Views.{view_sound, fetch_sound, ready_sound}
use Rattle.history.proofs.Sound.Upkeep.{mend_sound, collect_sound}
pub use Rattle.history.proofs.Sound.Format.{format_sound}

-- an accepted event
pub sound_kept : (s : State) (e : Event) → Sound s → Yes s e → Sound (rule s e).after
unfolding rule
sound_kept s (Event.put p i b d) v y = put_sound v p i b d y
sound_kept s (Event.copy k) v y = copy_sound v k y
sound_kept s (Event.savelog i) v y = savelog_sound v i y
sound_kept s (Event.map p b) v y = map_sound v p b y
sound_kept s (Event.send b) v y = send_sound v b y
sound_kept s (Event.deliver n) v y = deliver_sound v n y
sound_kept s (Event.drop n) v y = drop_sound v n
sound_kept s (Event.savemap i) v y = savemap_sound v i y
sound_kept s (Event.done p b) v y = item_goes_sound v p b (search)
sound_kept s (Event.get p b) v y = v
sound_kept s (Event.abandon p b) v y = item_goes_sound v p b (search)
sound_kept s (Event.learn p) v y = learn_sound v p (search)
sound_kept s (Event.reset p) v y = reset_sound v p (search)
sound_kept s (Event.crash i) v y = crash_sound v i y
sound_kept s (Event.lose i) v y = lose_sound v i y
sound_kept s (Event.rise i) v y = rise_sound v i y
sound_kept s (Event.join i) v y = join_sound v i y
sound_kept s Event.view v y = view_sound v y
sound_kept s (Event.fetch g) v y = fetch_sound v g y
sound_kept s (Event.ready g) v y = ready_sound v g y
sound_kept s (Event.mend i) v y = mend_sound v i y
sound_kept s (Event.collect i) v y = collect_sound v i y
sound_kept s Event.unknown v y = v

-- every event, accepted or refused
pub step_sound : (s : State) (e : Event) → Sound s → Sound (step s e).after
step_sound s e v = go (step s e) (stepped s e)
  where
    go : (o : Outcome) → Stepped s e o → Sound o.after
    go o (refused c) = v
    go o (accepted y) = sound_kept s e v y

-- ---- lists of events
list_sound : (es : List Event) (s : State) → Sound s → Sound (after_all s es)
unfolding after_all
list_sound [] s v = v
list_sound (e ∷ es) s v = list_sound es (step s e).after (step_sound s e v)

-- question 2 is answered yes before and after every event of a list from format
pub never_two : (c : Settings) → in_limits c ≡ true → (es : List Event) → sound (after_all (format c) es) ≡ true
never_two c y es = facts_sound (after_all (format c) es) (list_sound es (format c) (format_sound c y))
