-- The questions of the event view, by the settings that were read.
use mathlib.Core.Path.{◌≡◌, refl, sym, ap, ◌∙◌}
use mathlib.Core.List.{List}
use mathlib.Core.Bool.{Bool}
use Prim.Native.Nat.{ℕ, ◌<◌}
use borrow.Author.Tests.{ltb-true}
use Rattle.lists.specs.Tests.{◌and◌, count_below}
use Rattle.words.specs.Words.{words}
use Rattle.rules.specs.declared.settings.Settings.{Settings}
use Rattle.rules.specs.Limits.{max_view_or_order}
use Rattle.rules.specs.State.{State}
use Rattle.rules.specs.Question.{first_no}
use Rattle.rules.specs.Views.{view_asks}
use Rattle.rules.proofs.Questions.{all_yes}
use Rattle.layout.specs.Store.{decode}
use Rattle.lent.specs.Stores.{StoreOf}
use Rattle.lent.proofs.Stores.{settings_are}

module _ (c : Settings) (bs : List ℕ) (v : StoreOf c bs) where
  abbrev s : State
  s = decode (words bs)

  pub count_of : (test : ℕ → Bool) (n : ℕ) → n ≡ count_below c.places test → n ≡ count_below s.settings.places test
  count_of test n e = e ∙ ap (λ (x : Settings). count_below x.places test) (sym (settings_are c bs v))

  -- a view number is left
  pub view_yes : first_no (view_asks s) ≡ 0 → s.view < max_view_or_order
  unfolding ◌and◌
  view_yes e = ltb-true s.view max_view_or_order (all_yes (view_asks s) refl e).0
