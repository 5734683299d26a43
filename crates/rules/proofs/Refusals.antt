-- A refusal has a number, and so is no yes.
use mathlib.Core.Path.{◌≡◌, refl}
use mathlib.Core.List.{List, ◌++◌}
use Prim.Native.Nat.{ℕ, suc}
use native.Mathlib.Omega.{arith}
use Rattle.rules.specs.declared.refusal.Refusal.{Refusal}
use Rattle.rules.specs.declared.refusal.Refusal.TheVariants.{BadSettings, Unsound, BadInput, WrongProxy, ViewUnknown, NoMember, NotReady, Pending, WrongItem, NoRoom, NoChunk, NoNumber, WrongState, BackupFull, OtherKey}
use Rattle.rules.specs.Refusals.{number}
use Rattle.rules.specs.Question.{Question, first_no}
use Rattle.rules.proofs.Questions.{stops_there}

pub from_one : (r : Refusal) → (c : ℕ) × (number r ≡ suc c)
from_one BadSettings = (0, refl)
from_one Unsound = (1, refl)
from_one BadInput = (2, refl)
from_one WrongProxy = (3, refl)
from_one ViewUnknown = (4, refl)
from_one NoMember = (5, refl)
from_one NotReady = (6, refl)
from_one Pending = (7, refl)
from_one WrongItem = (8, refl)
from_one NoRoom = (9, refl)
from_one NoChunk = (10, refl)
from_one NoNumber = (11, refl)
from_one WrongState = (12, refl)
from_one BackupFull = (13, refl)
from_one OtherKey = (14, refl)

pub never_zero : (r : Refusal) → number r ≡ 0 → ⊥
never_zero r z = omega (arith, (from_one r).1, z)

-- a group of questions that refuses ends the list
pub refuses_there : (qs rs : List Question) (r : Refusal) → number r ≡ first_no qs → number r ≡ first_no (qs ++ rs)
refuses_there qs rs r e = stops_there qs rs e (never_zero r)
