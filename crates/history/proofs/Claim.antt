-- Demand 3, proved: the claim about every list of events.
use mathlib.Core.Path.{◌≡◌, refl, sym, ap, subst, ◌∙◌}
use mathlib.Core.List.{List, [], ◌∷◌}
use mathlib.Core.Bool.{Bool, true, false}
use Prim.Native.Nat.{ℕ}
use native.Mathlib.Omega.{arith}
use Rattle.lists.proofs.Tests.{either}
use Rattle.rules.specs.declared.settings.Settings.{Settings}
use Rattle.rules.specs.Event.{Event}
use Rattle.rules.specs.State.{State}
use Rattle.rules.specs.Format.{format}
use Rattle.rules.specs.Derived.{bucket_at}
use Rattle.rules.specs.Question.{first_no}
use Rattle.rules.specs.Maps.{is_taken}
use Rattle.rules.specs.Whole.{whole, all_up_and_ready}
use Rattle.rules.specs.Step.{Outcome, rule, step}
use Rattle.rules.proofs.Step.{Yes, Stepped, refused, accepted, stepped, code_is}
use Rattle.rules.proofs.Sound.{Sound}
use Rattle.rules.proofs.Examples.{rules_open}
use Rattle.history.specs.Claim.{Answered, answered, Each, History, no_history, number, after_answer, Shown, Obeys, Ageing}
use Rattle.history.specs.Claim.{IsCrash, IsLose, IsCrashOrLose, FailuresFindWhole, awaiting_ready, BytesFound, NotRefusedForWant, NeverRefusedForWant}
use Rattle.history.specs.Claim.{NothingLost, CrashesFindReady, Claim}
use Rattle.history.proofs.Sound.All.{format_sound, sound_kept, step_sound}
use Rattle.history.proofs.AgeingInvariant.{AgeingInvariant}
use Rattle.history.proofs.WantInvariant.{KeptBy, Uses, WantInvariant, TwoSavedInvariant}
use Rattle.history.proofs.Ageing.Put.{put_key_unused}
use Rattle.history.proofs.Ageing.Reads.{get_shown}
use Rattle.history.proofs.Ageing.All.{ageing_kept, format_ageing}
use Rattle.history.proofs.Want.Reads.{get_found}
use Rattle.history.proofs.Want.Views.{fetch_found}
use Rattle.history.proofs.Want.Uses.{uses_map}
use Rattle.history.proofs.Want.All.{want_kept, format_want}
use Rattle.history.proofs.Want.TwoSaved.{member_keeps, two_saved_kept, format_two_saved}

-- ---- the settings stay
same_settings : (s : State) (e : Event) → (rule s e).after.settings ≡ s.settings
unfolding rules_open
same_settings s (Event.put p i b d) = refl
same_settings s (Event.copy k) = refl
same_settings s (Event.savelog i) = refl
same_settings s (Event.map p b) = either (λ (t : State). t.settings ≡ s.settings) (bucket_at s b).ready (λ _. refl) (λ _. refl)
same_settings s (Event.send b) = refl
same_settings s (Event.deliver n) = either (λ (t : State). t.settings ≡ s.settings) (is_taken s n) (λ _. refl) (λ _. refl)
same_settings s (Event.drop n) = refl
same_settings s (Event.savemap i) = refl
same_settings s (Event.done p b) = refl
same_settings s (Event.get p b) = refl
same_settings s (Event.abandon p b) = refl
same_settings s (Event.learn p) = refl
same_settings s (Event.reset p) = refl
same_settings s (Event.crash i) = refl
same_settings s (Event.lose i) = refl
same_settings s (Event.rise i) = refl
same_settings s (Event.join i) = refl
same_settings s Event.view = refl
same_settings s (Event.fetch g) = refl
same_settings s (Event.ready g) = refl
same_settings s (Event.mend i) = refl
same_settings s (Event.collect i) = refl
same_settings s Event.unknown = refl

-- ---- one step
abbrev as_answered : State → Event → Outcome → Answered
as_answered s e u = record { event = e; code = u.code; said = u.said; found = s }

module _ (s : State) (h : History) (v : AgeingInvariant s h) (z : Sound s) where
  new_key : (e : Event) → Yes s e → (p i b : ℕ) (d : List ℕ) → e ≡ Event.put p i b d → (c : ℕ) → number (h.writes c) (rule s e).said.key ≡ 0
  unfolding rule
  new_key e y p i b d q =
      subst (λ (a : Event). Yes s a → (c : ℕ) → number (h.writes c) (rule s a).said.key ≡ 0) (sym q)
      (λ a. put_key_unused s h v z p i b d a (sound_kept s (Event.put p i b d) z a)) y

  shows : (e : Event) → Yes s e → (p b : ℕ) → e ≡ Event.get p b → Shown s.settings.size (h.writes b) (h.mark b) (rule s e).said
  shows e y p b q = subst (λ (a : Event). Yes s a → Shown s.settings.size (h.writes b) (h.mark b) (rule s a).said) (sym q) (get_shown s h v z p b) y

  obeys : (e : Event) (u : Outcome) → Stepped s e u → Obeys s.settings.size h (as_answered s e u)
  obeys e u (refused c) = record { key_unused = λ p i b d q n. absurd (omega (arith, n)); shown = λ p b q n. absurd (omega (arith, n)) }
  obeys e u (accepted y) = record { key_unused = λ p i b d q _. new_key e y p i b d q; shown = λ p b q _. shows e y p b q }

  found : Uses (KeptBy s) s → (e : Event) → BytesFound (as_answered s e (step s e))
  found w e p b q n = subst (λ (a : Event). first_no (rule s a).questions ≡ 11 → ⊥) (sym q) (get_found s z h v w p b) (sym (code_is s e) ∙ n)

  not_refused : (o : ℕ → Bool) → WantInvariant s o → (e : Event) → NotRefusedForWant o (as_answered s e (step s e))
  not_refused o w e = record {
    bytes = found w.uses e;
    source = λ g q y n. subst (λ (a : Event). first_no (rule s a).questions ≡ 13 → ⊥) (sym q) (fetch_found s z o w.buckets g y) (sym (code_is s e) ∙ n);
  }

  ageing_on : (e : Event) (u : Outcome) → Stepped s e u → AgeingInvariant u.after (after_answer h e u.code u.said)
  ageing_on e u (refused c) = v
  ageing_on e u (accepted y) = ageing_kept s h e v z y (sound_kept s e z y)

  want_on : (o : ℕ → Bool) → WantInvariant s o → (e : Event) (u : Outcome) → Stepped s e u → (IsCrashOrLose e → u.code ≡ 0 → whole s ≡ true)
      → WantInvariant u.after (awaiting_ready o e u.code)
  want_on o w e u (refused c) f = w
  want_on o w e u (accepted y) f = want_kept s h o v z w e y (λ t. f t refl)

  two_saved_on : TwoSavedInvariant s → (e : Event) (u : Outcome) → Stepped s e u
      → (IsLose e → u.code ≡ 0 → ⊥) → (IsCrash e → u.code ≡ 0 → all_up_and_ready s ≡ true) → TwoSavedInvariant u.after
  two_saved_on d e u (refused c) none f = d
  two_saved_on d e u (accepted y) none f = two_saved_kept s h v z d e y (λ t. none t refl) (λ t. f t refl)

pub settings_on : (s : State) (e : Event) (u : Outcome) → Stepped s e u → u.after.settings ≡ s.settings
settings_on s e u (refused c) = refl
settings_on s e u (accepted y) = same_settings s e

-- ---- every list
ageing : (size : ℕ) (es : List Event) (s : State) (h : History) → AgeingInvariant s h → Sound s → s.settings.size ≡ size → Ageing size h (answered s es)
unfolding Ageing answered
ageing size [] s h v z q = tt
ageing size (e ∷ es) s h v z q =
    let u = step s e in
    let t = stepped s e in (
      subst (λ (n : ℕ). Obeys n h (as_answered s e u)) q (obeys s h v z e u t),
      ageing size es u.after _ (ageing_on s h v z e u t) (step_sound s e z) (ap (λ (c : Settings). c.size) (settings_on s e u t) ∙ q),
    )

never_refused : (es : List Event) (s : State) (h : History) (o : ℕ → Bool) → AgeingInvariant s h → Sound s → WantInvariant s o
    → FailuresFindWhole (answered s es) → NeverRefusedForWant o (answered s es)
unfolding Each NeverRefusedForWant answered
never_refused [] s h o v z w f = tt
never_refused (e ∷ es) s h o v z w f =
    let u = step s e in
    let t = stepped s e in (
      not_refused s h v z o w e,
      never_refused es u.after _ _ (ageing_on s h v z e u t) (step_sound s e z) (want_on s h v z o w e u t f.0) f.1,
    )

all_found : (es : List Event) (s : State) (h : History) → AgeingInvariant s h → Sound s → TwoSavedInvariant s
    → NothingLost (answered s es) → CrashesFindReady (answered s es) → Each BytesFound (answered s es)
unfolding Each answered
all_found [] s h v z d none f = tt
all_found (e ∷ es) s h v z d none f =
    let u = step s e in
    let t = stepped s e in (
      found s h v z (uses_map (member_keeps s d.bricks) d.uses) e,
      all_found es u.after _ (ageing_on s h v z e u t) (step_sound s e z) (two_saved_on s h v z d e u t none.0 f.0) none.1 f.1,
    )

pub claim : Claim
claim c y es =
    let z = format_sound c y in
    let v = format_ageing c in
    record {
      ageing = ageing c.size es (format c) no_history v z (same_size c);
      for_want = never_refused es (format c) no_history (λ g. false) v z (format_want c z);
      two_saved = all_found es (format c) no_history v z (format_two_saved c);
    }
  where
    same_size : (c : Settings) → (format c).settings.size ≡ c.size
    same_size c = unfold format in refl
