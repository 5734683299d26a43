-- The bucket of a block, and its share of the agreed record.
use mathlib.Core.Path.{◌≡◌, sym, ap, subst}
use mathlib.Core.List.{List}
use Prim.Native.Nat.{ℕ, ◌<◌}
use Rattle.words.specs.Words.{words}
use Rattle.rules.specs.declared.settings.Settings.{Settings}
use Rattle.rules.specs.Limits.{buckets}
use Rattle.rules.specs.Numbers.{bucket_of}
use Rattle.rules.specs.Derived.{bucket_no}
use Rattle.layout.specs.Layout.{agreed_codec, agreed_part}
use Rattle.layout.specs.Store.{agreed_in, decode}
use Rattle.layout.proofs.Parts.{agreed_read}
use Rattle.lent.specs.Stores.{StoreOf}
use Rattle.lent.proofs.Stores.{settings_are}

-- the bucket of a block, by the settings that the code has read
pub number_is : (c : Settings) (bs : List ℕ) → StoreOf c bs → (b : ℕ) → bucket_of (buckets c) b ≡ bucket_no (decode (words bs)) b
number_is c bs v b = ap (λ (x : Settings). bucket_of (buckets x) b) (sym (settings_are c bs v))

module _ (c : Settings) (bs : List ℕ) (v : StoreOf c bs) (g : ℕ) (l : g < buckets c) where
  pub agreed_is : agreed_in ((decode (words bs)).bucket g) ≡ agreed_codec.dec (agreed_part g (words bs))
  agreed_is = agreed_read (words bs) v.sound.size g (subst (λ (x : Settings). g < buckets x) v.same l)
