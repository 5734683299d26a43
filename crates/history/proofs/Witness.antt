-- The premises of demand 3 are not empty: lists in which they hold and much happens, and lists in which they fail and there is want. Computed from the rules.
use mathlib.Core.Path.{◌≡◌, refl}
use mathlib.Core.List.{List, [], ◌∷◌, ◌++◌, map}
use mathlib.Core.Bool.{Bool, true, false, not}
use mathlib.Core.Logic.{inl, inr}
use Prim.Native.Nat.{ℕ}
use lib.Dec.{eqb}
use borrow.Author.Tests.{eq-eqb}
use Rattle.lists.specs.Tests.{◌and◌, ◌or◌, every, same_numbers, only}
use Rattle.lists.proofs.Tests.{both, and_l, and_r, or_l, or_r, if_so, is_no}
use Rattle.rules.specs.declared.settings.Settings.{Settings}
use Rattle.rules.specs.Limits.{in_limits}
use Rattle.rules.specs.Numbers.{key_of}
use Rattle.rules.specs.Event.{Event, event_fields}
use Rattle.rules.specs.State.{State}
use Rattle.rules.specs.Format.{format}
use Rattle.rules.specs.Whole.{whole, all_up_and_ready}
use Rattle.rules.specs.Examples.{last_of, a1, b2, for_each, written_5, all_ready}
use Rattle.rules.proofs.Examples.{rules_open}
use Rattle.history.specs.Claim.{Answered, answered, Each, IsCrash, IsLose, Finds, IsCrashOrLose, FailuresFindWhole, NeverRefusedForWant}
use Rattle.history.specs.Claim.{BytesFound, NothingLost, CrashesFindReady}
use Rattle.history.proofs.Claim.{claim}

-- ---- the premises as tests: a crash is of kind 14, a loss of kind 15
abbrev kind : Event → ℕ
kind e = (event_fields e).kind

abbrev is_crash : Event → Bool
is_crash e = eqb (kind e) 14

abbrev is_lose : Event → Bool
is_lose e = eqb (kind e) 15

abbrev is_failure : Event → Bool
is_failure e = is_crash e or is_lose e

crash_kind : (e : Event) → IsCrash e → is_crash e ≡ true
unfolding event_fields
crash_kind e (i, q) = rw q refl

lose_kind : (e : Event) → IsLose e → is_lose e ≡ true
unfolding event_fields
lose_kind e (i, q) = rw q refl

failure_kind : (e : Event) → IsCrashOrLose e → is_failure e ≡ true
failure_kind e (inl t) = or_l _ _ (crash_kind e t)
failure_kind e (inr t) = or_r _ _ (lose_kind e t)

-- an accepted event of some kinds
abbrev accepted : (Event → Bool) → Answered → Bool
accepted is t = is t.event and eqb t.code 0

unfoldable pub each_finds : (Event → Bool) → (State → Bool) → List Answered → Bool
each_finds is test ts = every (λ t. not (accepted is t) or test t.found) ts

finds : {Is : Event → Type 0} {is : Event → Bool} → ((e : Event) → Is e → is e ≡ true) → (test : State → Bool) (ts : List Answered)
    → each_finds is test ts ≡ true → Each (Finds Is test) ts
unfolding each_finds every Each
finds f test [] y = tt
finds f test (t ∷ ts) y = (λ e n. if_so _ _ (and_l _ _ y) (both _ _ (f t.event e) (eq-eqb t.code 0 n)), finds f test ts (and_r _ _ y))

unfoldable none_lost : List Answered → Bool
none_lost ts = every (λ t. not (accepted is_lose t)) ts

nothing_lost : (ts : List Answered) → none_lost ts ≡ true → NothingLost ts
unfolding none_lost every Each
nothing_lost [] y = tt
nothing_lost (t ∷ ts) y = (λ e n. is_no _ (and_l _ _ y) (both _ _ (lose_kind t.event e) (eq-eqb t.code 0 n)), nothing_lost ts (and_r _ _ y))

-- the kinds of the accepted crashes and losses
abbrev failures : List Answered → List ℕ
failures ts = map (λ (t : Answered). kind t.event) (only (accepted is_failure) ts)

-- ---- a life: a write confirmed, its primary crashed and risen, shown again after a view, fetches, readies and mends; then the other brick of the pair
-- is lost for good and another joins
abbrev small : Settings
small = record { places = 3; size = 8; entries = 2; chunks = 4 }

abbrev each_place : (ℕ → Event) → List Event
each_place f = map f (0 ∷ 1 ∷ 2 ∷ [])

abbrev anew : List Event
anew = all_ready ++ (Event.learn 0 ∷ each_place Event.savemap ++ each_place Event.mend)

abbrev crashed : List Event
crashed = written_5 ++ (Event.crash 0 ∷ Event.rise 0 ∷ anew)

abbrev lost : List Event
lost = crashed ++ (Event.get 0 5 ∷ Event.lose 1 ∷ Event.join 1 ∷ anew)

abbrev shown : List ℕ
shown = 0 ∷ key_of 1 0 ∷ a1

-- from format, the last event's code, key and data are these
abbrev gives : Settings → List Event → List ℕ → Type 0
gives c es l = same_numbers (last_of (format c) es) l ≡ true

pub read_after_crash : gives small (crashed ++ (Event.get 0 5 ∷ [])) shown
unfolding rules_open last_of same_numbers for_each a1
read_after_crash = refl

pub read_after_loss : gives small (lost ++ (Event.get 0 5 ∷ [])) shown
unfolding rules_open last_of same_numbers for_each a1
read_after_loss = refl

-- a crash and a loss are accepted in it
pub two_failures : failures (answered (format small) lost) ≡ (14 ∷ 15 ∷ [])
unfolding rules_open answered event_fields for_each a1
two_failures = refl

-- and each finds a whole store: so there is no want in it
pub premise_met : FailuresFindWhole (answered (format small) lost)
premise_met = finds failure_kind whole (answered (format small) lost) computed
  where
    computed : each_finds is_failure whole (answered (format small) lost) ≡ true
    computed = unfold rules_open answered event_fields each_finds for_each a1 in refl

small_passes : in_limits small ≡ true
unfolding rules_open
small_passes = refl

pub never_refused_in_it : NeverRefusedForWant (λ g. false) (answered (format small) lost)
never_refused_in_it = (claim small small_passes lost).for_want premise_met

-- ---- a write under way: its primary, the chunk's home, crashes between map and done, with the relay not yet taken; the block is read without it, then
-- the brick returns, the write is confirmed and read again
abbrev crashed_amid : List Event
crashed_amid = written_5
    ++ (Event.put 0 0 5 b2 ∷ Event.copy (key_of 1 1) ∷ Event.savelog 0 ∷ Event.savelog 1 ∷ Event.map 0 5 ∷ Event.send 5 ∷ Event.crash 0 ∷ Event.deliver 0 ∷ [])
    ++ all_ready ++ (Event.learn 0 ∷ [])

abbrev returned : List Event
returned = crashed_amid ++ (Event.get 0 5 ∷ Event.rise 0 ∷ all_ready) ++ (Event.learn 0 ∷ Event.done 0 5 ∷ [])

abbrev shown_amid : List ℕ
shown_amid = 0 ∷ key_of 1 1 ∷ b2

pub read_amid_write : gives small (crashed_amid ++ (Event.get 0 5 ∷ [])) shown_amid
unfolding rules_open last_of same_numbers for_each a1 b2
read_amid_write = refl

pub confirmed_after_return : gives small returned (0 ∷ 0 ∷ [])
unfolding rules_open last_of same_numbers for_each a1 b2
confirmed_after_return = refl

pub read_after_return : gives small (returned ++ (Event.get 0 5 ∷ [])) shown_amid
unfolding rules_open last_of same_numbers for_each a1 b2
read_after_return = refl

-- the crash is accepted, and does not find a whole store
pub crash_amid_write : failures (answered (format small) returned) ≡ (14 ∷ [])
unfolding rules_open answered event_fields for_each a1 b2
crash_amid_write = refl

pub not_whole : each_finds is_crash whole (answered (format small) returned) ≡ false
unfolding rules_open answered event_fields each_finds for_each a1 b2
not_whole = refl

-- it finds every place an up member and every bucket ready, and nothing is lost: so every get finds bytes
pub finds_ready : CrashesFindReady (answered (format small) returned)
finds_ready = finds crash_kind all_up_and_ready (answered (format small) returned) computed
  where
    computed : each_finds is_crash all_up_and_ready (answered (format small) returned) ≡ true
    computed = unfold rules_open answered event_fields each_finds for_each a1 b2 in refl

pub loses_nothing : NothingLost (answered (format small) returned)
loses_nothing = nothing_lost (answered (format small) returned) computed
  where
    computed : none_lost (answered (format small) returned) ≡ true
    computed = unfold rules_open answered event_fields none_lost for_each a1 b2 in refl

pub all_found_in_it : Each BytesFound (answered (format small) returned)
all_found_in_it = (claim small small_passes returned).two_saved loses_nothing finds_ready

-- ---- without the premises there is want
-- a chunk at two bricks that are not of the block's pair
abbrev four : Settings
four = record { places = 4; size = 8; entries = 2; chunks = 4 }

abbrev saved_apart : List Event
saved_apart = Event.learn 0 ∷ Event.put 0 2 5 a1 ∷ Event.copy (key_of 3 0) ∷ Event.savelog 2 ∷ Event.savelog 3 ∷ Event.map 0 5 ∷ Event.send 5 ∷ Event.deliver 0
    ∷ Event.savemap 0 ∷ Event.savemap 1 ∷ []

-- both are lost
pub bytes_refused : gives four (saved_apart ++ (Event.lose 2 ∷ Event.lose 3 ∷ Event.get 0 5 ∷ [])) (11 ∷ 0 ∷ [])
unfolding rules_open last_of same_numbers a1
bytes_refused = refl

-- both are down: the second crash finds a place without an up member
pub two_down : gives four (saved_apart ++ (Event.crash 2 ∷ Event.crash 3 ∷ Event.get 0 5 ∷ [])) (11 ∷ 0 ∷ [])
unfolding rules_open last_of same_numbers a1
two_down = refl

-- one is lost, and the other crashes, with all up and ready again but nothing mended
pub lost_then_crashed : gives four (saved_apart ++ (Event.lose 2 ∷ Event.join 2 ∷ all_ready) ++ (Event.learn 0 ∷ Event.crash 3 ∷ Event.get 0 5 ∷ []))
    (11 ∷ 0 ∷ [])
unfolding rules_open last_of same_numbers for_each a1
lost_then_crashed = refl

-- both bricks of a pair are lost, one after the other
pub source_refused : gives four (Event.lose 0 ∷ Event.view ∷ Event.lose 1 ∷ Event.view ∷ Event.fetch 0 ∷ []) (13 ∷ 0 ∷ [])
unfolding rules_open last_of same_numbers
source_refused = refl
