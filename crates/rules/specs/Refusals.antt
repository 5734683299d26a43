-- The numbers of the questions: where the code answers by an enum, this gives the number for each of its cases.
use Rattle.std.specs.Prelude.{ℕ, Result, Ok, Err}
use Rattle.rules.specs.declared.refusal.Refusal.{Refusal}
use Rattle.rules.specs.declared.refusal.Refusal.TheVariants.{BadSettings, Unsound, BadInput, WrongProxy, ViewUnknown, NoMember, NotReady, Pending, WrongItem, NoRoom, NoChunk, NoNumber, WrongState, BackupFull, OtherKey}

abbrev pub number : Refusal → ℕ
number BadSettings = 1
number Unsound = 2
number BadInput = 3
number WrongProxy = 4
number ViewUnknown = 5
number NoMember = 6
number NotReady = 7
number Pending = 8
number WrongItem = 9
number NoRoom = 10
number NoChunk = 11
number NoNumber = 12
number WrongState = 13
number BackupFull = 14
number OtherKey = 15

-- the number that a call answers: 0 where no question was answered no
abbrev pub code_of : {A : Type 0} → Result A Refusal → ℕ
code_of (Ok _) = 0
code_of (Err refusal) = number refusal
