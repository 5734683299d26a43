-- The bucket of a block as the code has read it: its number, its record, and the copies of its pair.
use mathlib.Core.Path.{◌≡◌, sym, ap, ◌∙◌}
use mathlib.Core.List.{List}
use mathlib.Core.Bool.{true}
use Prim.Native.Nat.{ℕ}
use native.Mathlib.Omega.{arith}
use Rattle.lists.proofs.Tests.{clash, and_l}
use Rattle.words.specs.Words.{words}
use Rattle.rules.specs.declared.settings.Settings.{Settings}
use Rattle.rules.specs.Limits.{buckets}
use Rattle.rules.specs.Numbers.{bucket_of}
use Rattle.rules.specs.Entries.{Entry, takes}
use Rattle.rules.specs.State.{State}
use Rattle.rules.specs.Derived.{up_member, bucket_no, bucket_at}
use Rattle.layout.specs.Contents.{Agreed, Brick, blank_brick}
use Rattle.layout.specs.Store.{brick_in, agreed_in, decode}
use Rattle.lent.specs.Stores.{StoreOf}
use Rattle.lent.proofs.Stores.{settings_are}
use Rattle.lent.proofs.Buckets.{number_is}

-- g is the number of the block's bucket, a its record, and `most` the room of a copy
pub record InBucket (s : State) (most b g : ℕ) (a : Agreed) : Type 0 where
  pub number : g ≡ bucket_no s b
  pub agreed : a ≡ agreed_in (bucket_at s b)
  pub entries : most ≡ s.settings.entries

pub in_bucket : (c : Settings) (bs : List ℕ) → StoreOf c bs → (b g : ℕ) → g ≡ bucket_of (buckets c) b → (a : Agreed)
    → a ≡ agreed_in ((decode (words bs)).bucket g) → InBucket (decode (words bs)) c.entries b g a
in_bucket c bs v b g n a e =
    let number = n ∙ number_is c bs v b in
    record {
      number = number;
      agreed = e ∙ ap (λ (i : ℕ). agreed_in ((decode (words bs)).bucket i)) number;
      entries = ap (λ (x : Settings). x.entries) (sym (settings_are c bs v));
    }

-- the copy of a brick that the record names
module _ (s : State) (most b g : ℕ) (a : Agreed) (k : InBucket s most b g a) (named : Agreed → ℕ) where
  pub memory_is : (s.bucket g).memory (named a) ≡ (bucket_at s b).memory (named (agreed_in (bucket_at s b)))
  memory_is = ap (λ (i : ℕ). (s.bucket i).memory (named a)) k.number ∙ ap (λ (x : Agreed). (bucket_at s b).memory (named x)) k.agreed

  pub takes_is : takes most ((s.bucket g).memory (named a)) b
      ≡ takes s.settings.entries ((bucket_at s b).memory (named (agreed_in (bucket_at s b)))) b
  takes_is =
      ap (λ (x : ℕ). takes x ((s.bucket g).memory (named a)) b) k.entries ∙ ap (λ (l : List Entry). takes s.settings.entries l b) memory_is

-- an up member stands somewhere
pub member_stands : (s : State) (i : ℕ) → up_member s i ≡ true → brick_in s i ≡ blank_brick → ⊥
member_stands s i y n = let z : ◌≡◌ {A = ℕ} 0 1 = clash (ap (λ (x : Brick). x.status.up) n) (and_l _ _ y) in omega arith
