-- mend and collect keep a store sound.
use mathlib.Core.List.{List}
use mathlib.Core.Bool.{Bool, true}
use Prim.Native.Nat.{ℕ}
use native.Mathlib.Omega.{arith}
use borrow.Author.Tests.{leb-true}
use Rattle.lists.proofs.Tests.{length_only}
use Rattle.rules.specs.Chunks.{Chunk, save_key, only_named}
use Rattle.rules.specs.State.{State}
use Rattle.rules.specs.Question.{AllYes}
use Rattle.rules.specs.Upkeep.{mend_asks, mend_effect, is_named, collect_asks, collect_effect}
use Rattle.rules.proofs.Sound.{LogOk, KeyOf, Sound}
use Rattle.history.proofs.Mend.{mend_keeps}
use Rattle.history.proofs.Sound.Lists.{log_append, log_save, log_only}
use Rattle.history.proofs.Sound.Groups.{log_sound}
use Rattle.history.proofs.Sound.Writes.{held_ok}

module _ {s : State} (v : Sound s) where
  abbrev Log : List Chunk → Type 0
  Log = LogOk (KeyOf s) s.settings.size

  -- ---- mend
  pub mend_sound : (i : ℕ) → AllYes (mend_asks s i) → Sound (mend_effect s (s.ids i))
  unfolding mend_effect save_key
  mend_sound i y =
      log_sound v (s.ids i) (search) (mend_keeps s (s.ids i) Log (λ l k o. log_save o _) (λ l k n h o. log_append o _ n (held_ok v _ k true h)) (v.logs (s.ids i)))
      (search leb-true)

  -- ---- collect
  pub collect_sound : (i : ℕ) → AllYes (collect_asks s i) → Sound (collect_effect s (s.ids i))
  unfolding collect_effect only_named
  collect_sound i y =
      let x = s.ids i in
      let named : Chunk → Bool = λ c. is_named s c.key in
      log_sound v x (search) (log_only (v.logs x) named) (omega (arith, length_only named (s.bricks.log x), v.log_room x))
