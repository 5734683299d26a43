-- Demand 3: the one claim about a list of events. The history and the ageing rule read events and their answers; the premises of the claims on want read,
-- of the store that a crash or loss found, whether it was whole, or all up and ready; nothing else of the store.
use Rattle.std.specs.Prelude.{◌≡◌, List, [], ◌∷◌, Bool, true, false, cond, ◌⊎◌, ℕ, zero, suc, ◌≤◌, ◌<◌, eqb, length}
use Rattle.lists.specs.Columns.{upd}
use Rattle.rules.specs.declared.settings.Settings.{Settings}
use Rattle.rules.specs.Limits.{in_limits}
use Rattle.rules.specs.Event.{Event}
use Rattle.rules.specs.State.{State}
use Rattle.rules.specs.Format.{format}
use Rattle.rules.specs.Reads.{zeros}
use Rattle.rules.specs.Step.{Answer, step}
use Rattle.rules.specs.Whole.{whole, all_up_and_ready}

-- ---- the list: each event with its code and answer, as the step gives them from the store that the events before left
pub record Answered : Type 0 where
  pub event : Event
  pub code : ℕ
  pub said : Answer
  -- the store that it found
  pub found : State

unfoldable pub answered : State → List Event → List Answered
answered s [] = []
answered s (e ∷ es) = let o = step s e in record { event = e; code = o.code; said = o.said; found = s } ∷ answered o.after es

unfoldable pub Each : (Answered → Type 0) → List Answered → Type 0
Each P [] = Unit {0}
Each P (t ∷ ts) = P t × Each P ts

-- ---- history: for each block it has its writes, numbered from 1 (the newest first in the list), and a mark, first 0
pub record Write : Type 0 where
  pub key : ℕ
  pub bytes : List ℕ

pub record History : Type 0 where
  pub writes : ℕ → List Write
  pub mark : ℕ → ℕ

abbrev pub no_history : History
no_history = record { writes = λ b. []; mark = λ b. 0 }

-- the number of the write with a key, 0 if there is none; and its bytes
unfoldable pub number : List Write → ℕ → ℕ
number [] k = 0
number (w ∷ l) k = cond (eqb k w.key) (suc (length l)) (number l k)

unfoldable pub written : List Write → ℕ → List ℕ
written [] k = []
written (w ∷ l) k = cond (eqb k w.key) w.bytes (written l k)

-- what an accepted event is to the history and to the claim on want
pub data Meaning : Type 0 where
  writes : ℕ → List ℕ → Meaning
  confirms : ℕ → Meaning
  shows : ℕ → Meaning
  views : Meaning
  readies : ℕ → Meaning
  nothing : Meaning

unfoldable pub meaning : Event → Meaning
meaning (Event.put p i b d) = writes b d
meaning (Event.copy k) = nothing
meaning (Event.savelog i) = nothing
meaning (Event.map p b) = nothing
meaning (Event.send b) = nothing
meaning (Event.deliver n) = nothing
meaning (Event.drop n) = nothing
meaning (Event.savemap i) = nothing
meaning (Event.done p b) = confirms b
meaning (Event.get p b) = shows b
meaning (Event.abandon p b) = nothing
meaning (Event.learn p) = nothing
meaning (Event.reset p) = nothing
meaning (Event.crash i) = nothing
meaning (Event.lose i) = nothing
meaning (Event.rise i) = nothing
meaning (Event.join i) = nothing
meaning Event.view = views
meaning (Event.fetch g) = nothing
meaning (Event.ready g) = readies g
meaning (Event.mend i) = nothing
meaning (Event.collect i) = nothing
meaning Event.unknown = nothing

-- a put adds its answered key and its data as the next write; a done confirms the block's last write: the mark becomes its number; a get shows the write
-- whose key it answers: the mark becomes its number, or 0 for key 0
abbrev pub record_event : History → Meaning → Answer → History
record_event h (writes b d) a = record { writes = upd h.writes b (record { key = a.key; bytes = d } ∷ h.writes b); mark = h.mark }
record_event h (confirms b) a = record { writes = h.writes; mark = upd h.mark b (length (h.writes b)) }
record_event h (shows b) a = record { writes = h.writes; mark = upd h.mark b (cond (eqb a.key 0) 0 (number (h.writes b) a.key)) }
record_event h views a = h
record_event h (readies g) a = h
record_event h nothing a = h

-- accepted means code 0; refused ones change nothing
abbrev pub after_answer : History → Event → ℕ → Answer → History
after_answer h e zero a = record_event h (meaning e) a
after_answer h e (suc c) a = h

-- ---- the ageing rule
-- key 0 and zeros where the mark is 0, or the key and bytes of one write of its block whose number is at least the mark
abbrev pub Shown : ℕ → List Write → ℕ → Answer → Type 0
Shown size w mark a =
    ((a.key ≡ 0) × (a.bytes ≡ zeros size) × (mark ≡ 0)) ⊎ ((0 < number w a.key) × (a.bytes ≡ written w a.key) × (mark ≤ number w a.key))

pub record Obeys (size : ℕ) (h : History) (t : Answered) : Type 0 where
  -- no two accepted puts answer one key: the new one is no earlier write's, of any block
  pub key_unused : (p i b : ℕ) (d : List ℕ) → t.event ≡ Event.put p i b d → t.code ≡ 0 → (c : ℕ) → number (h.writes c) t.said.key ≡ 0
  -- what an accepted get answers, by the block's mark just before it
  pub shown : (p b : ℕ) → t.event ≡ Event.get p b → t.code ≡ 0 → Shown size (h.writes b) (h.mark b) t.said

unfoldable pub Ageing : ℕ → History → List Answered → Type 0
Ageing size h [] = Unit {0}
Ageing size h (t ∷ ts) = Obeys size h t × Ageing size (after_answer h t.event t.code t.said) ts

-- ---- what a crash or loss finds
abbrev pub IsCrash : Event → Type 0
IsCrash e = (i : ℕ) × (e ≡ Event.crash i)

abbrev pub IsLose : Event → Type 0
IsLose e = (i : ℕ) × (e ≡ Event.lose i)

-- an accepted event of some kinds finds a store that passes a test
abbrev pub Finds : (Event → Type 0) → (State → Bool) → Answered → Type 0
Finds Is test t = Is t.event → t.code ≡ 0 → test t.found ≡ true

-- ---- for want
abbrev pub IsCrashOrLose : Event → Type 0
IsCrashOrLose e = IsCrash e ⊎ IsLose e

-- accepted crash and lose events each find a whole store
abbrev pub FailuresFindWhole : List Answered → Type 0
FailuresFindWhole = Each (Finds IsCrashOrLose whole)

-- the buckets of which a view was accepted and no ready has been accepted since
abbrev pub awaiting_by : (ℕ → Bool) → Meaning → (ℕ → Bool)
awaiting_by o (writes b d) = o
awaiting_by o (confirms b) = o
awaiting_by o (shows b) = o
awaiting_by o views = λ g. true
awaiting_by o (readies g) = upd o g false
awaiting_by o nothing = o

abbrev pub awaiting_ready : (ℕ → Bool) → Event → ℕ → (ℕ → Bool)
awaiting_ready o e zero = awaiting_by o (meaning e)
awaiting_ready o e (suc c) = o

-- no get answers 11
abbrev pub BytesFound : Answered → Type 0
BytesFound t = (p b : ℕ) → t.event ≡ Event.get p b → t.code ≡ 11 → ⊥

pub record NotRefusedForWant (o : ℕ → Bool) (t : Answered) : Type 0 where
  pub bytes : BytesFound t
  -- no fetch answers 13 where a view was accepted and no ready of its bucket has been accepted since
  pub source : (g : ℕ) → t.event ≡ Event.fetch g → o g ≡ true → t.code ≡ 13 → ⊥

unfoldable pub NeverRefusedForWant : (ℕ → Bool) → List Answered → Type 0
NeverRefusedForWant o [] = Unit {0}
NeverRefusedForWant o (t ∷ ts) = NotRefusedForWant o t × NeverRefusedForWant (awaiting_ready o t.event t.code) ts

-- ---- two saved copies (request (i)): where nothing is ever lost and each crash finds every place an up member and every bucket ready, no read is refused for
-- want of bytes, even with writes under way
-- no lose event is accepted
abbrev pub NothingLost : List Answered → Type 0
NothingLost = Each (λ t. IsLose t.event → t.code ≡ 0 → ⊥)

-- accepted crash events each find every place an up member and every bucket ready
abbrev pub CrashesFindReady : List Answered → Type 0
CrashesFindReady = Each (Finds IsCrash all_up_and_ready)

-- ---- what is claimed of a list
pub record Claimed (size : ℕ) (ts : List Answered) : Type 0 where
  pub ageing : Ageing size no_history ts
  pub for_want : FailuresFindWhole ts → NeverRefusedForWant (λ g. false) ts
  pub two_saved : NothingLost ts → CrashesFindReady ts → Each BytesFound ts

-- ---- the claim: format with any settings that question 1 passes, then take any list of events, all kinds, any order, refused ones included
abbrev pub Claim : Type 0
Claim = (c : Settings) → in_limits c ≡ true → (es : List Event) → Claimed c.size (answered (format c) es)
