-- What the code of an event promises, of the words of a sound store: the rules' answer, and the rules' state rendered over the words.
use Rattle.std.specs.Prelude.{◌≡◌, List, ℕ, Result, Ok, Err}
use Rattle.rules.specs.declared.refusal.Refusal.{Refusal}
use Rattle.rules.specs.Refusals.{code_of}
use Rattle.rules.specs.Event.{Event}
use Rattle.rules.specs.Step.{step}
use Rattle.layout.specs.Store.{decode, render}

-- the key of an answer: a refusal has 0
abbrev pub key_of : Result ℕ Refusal → ℕ
key_of (Ok key) = key
key_of (Err _) = 0

pub record Performs (e : Event) (before : List ℕ) (r : Result ℕ Refusal) (after : List ℕ) : Type 0 where
  pub code : code_of r ≡ (step (decode before) e).code
  pub key : key_of r ≡ (step (decode before) e).said.key
  pub leaves : after ≡ render (step (decode before) e).after before
