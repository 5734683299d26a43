-- collect: its last questions, and what its effect asks for: a place that holds a brick, in a store whose buckets are all ready with nothing pending.
use Rattle.std.specs.Prelude.{◌≡◌, true, List, [], ◌∷◌, ℕ, ◌<◌, eqb, length}
use Rattle.lists.specs.Tests.{◌or◌, all_below}
use Rattle.words.specs.Words.{words}
use Rattle.rules.specs.declared.settings.Settings.{Settings}
use Rattle.rules.specs.Limits.{buckets, proxies}
use Rattle.rules.specs.State.{State}
use Rattle.rules.specs.Derived.{is_empty, up_member, nothing_pending}
use Rattle.rules.specs.Question.{Question, ◌asks◌}
use Rattle.layout.specs.Store.{decode}
use Rattle.lent.specs.Stores.{StoreOf}

pub record Collects (c : Settings) (bs : List ℕ) (place : ℕ) : Type 0 where
  pub store : StoreOf c bs
  pub inside : place < c.places
  pub some : 0 < (decode (words bs)).ids place
  pub nothing_pending : all_below (buckets c) (λ g. nothing_pending ((decode (words bs)).bucket g)) ≡ true

-- question 13: no place down, all up bricks members; all ready, nothing pending; no items
abbrev pub idle_asks : State → List Question
idle_asks s =
    (13 asks all_below s.settings.places (λ p. is_empty s p or up_member s (s.ids p)))
    ∷ (13 asks all_below (buckets s.settings) (λ g. nothing_pending (s.bucket g)))
    ∷ (13 asks all_below proxies (λ p. eqb (length (s.items p)) 0))
    ∷ []
