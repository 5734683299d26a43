-- The bag of a lent store, handed out as records.
use Rattle.std.specs.Prelude.{◌≡◌, Bool, cond, List, [], ◌∷◌, ℕ, leb, length}
use Rattle.lists.specs.Tests.{◌and◌}
use Rattle.rules.specs.State.{Relay as Held}
use Rattle.rules.specs.Question.{Question, ◌asks◌, first_no}
use Rattle.layout.specs.Store.{decode_bytes, sound_bytes}
use Rattle.bag.specs.declared.Relay.{Relay}
use Rattle.relay_list.specs.declared.BagAnswer.{BagAnswer}
use Rattle.relay_list.specs.Relays.{relays_of, over}

abbrev pub stored_bag : List ℕ → List Held
stored_bag store = (decode_bytes store).bag

-- 2: a sound store? 3: a record for each relay?
abbrev pub show_asks : List ℕ → ℕ → List Question
show_asks store room = (2 asks sound_bytes store) ∷ (3 asks leb (length (stored_bag store)) room) ∷ []

abbrev pub is_shown : List ℕ → List Relay → Bool
is_shown store list = sound_bytes store and leb (length (stored_bag store)) (length list)

-- the bag, oldest first, and its count; records past it stay. Where a question is answered no all stay, and the count is 0
pub record Shows (store : List ℕ) (before : List Relay) (answer : BagAnswer) (after : List Relay) : Type 0 where
  pub code : answer.code ≡ first_no (show_asks store (length before))
  pub count : answer.count ≡ cond (is_shown store before) (length (stored_bag store)) 0
  pub records : relays_of after ≡ cond (is_shown store before) (over (stored_bag store) before) (relays_of before)
