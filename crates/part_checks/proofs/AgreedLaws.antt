-- A bucket's record is its eight words.
use mathlib.Core.Path.{◌≡◌, refl, ap}
use mathlib.Core.List.{List, [], ◌∷◌}
use Prim.Native.Nat.{ℕ}
use lib.Dec.{leb, eqb}
use lib.ListN.{get_or}
use Rattle.lists.specs.Tests.{◌and◌}
use Rattle.rules.specs.Limits.{max_view_or_order}
use Rattle.rules.specs.Sound.{sound_pair, sound_bucket}
use Rattle.layout.specs.Contents.{Agreed}
use Rattle.layout.specs.Layout.{agreed_codec}
use Rattle.part_checks.specs.Agreed.{agreed_sound}

eight : (w : List ℕ)
    → agreed_codec.dec w
    ≡ record {
      primary = get_or w 0 0;
      backup = get_or w 1 0;
      last_primary = get_or w 2 0;
      last_backup = get_or w 3 0;
      ready = eqb (get_or w 4 0) 1;
      fetched = eqb (get_or w 5 0) 1;
      last_sent = get_or w 6 0;
      taken = get_or w 7 0;
    }
eight [] = refl
eight (a ∷ []) = refl
eight (a ∷ b ∷ []) = refl
eight (a ∷ b ∷ c ∷ []) = refl
eight (a ∷ b ∷ c ∷ d ∷ []) = refl
eight (a ∷ b ∷ c ∷ d ∷ e ∷ []) = refl
eight (a ∷ b ∷ c ∷ d ∷ e ∷ f ∷ []) = refl
eight (a ∷ b ∷ c ∷ d ∷ e ∷ f ∷ g ∷ []) = refl
eight (a ∷ b ∷ c ∷ d ∷ e ∷ f ∷ g ∷ h ∷ w) = refl

-- its test, word by word
pub agreed_is : (given : ℕ) (w : List ℕ) → agreed_sound given w
    ≡ (sound_pair given (get_or w 0 0) (get_or w 1 0) and sound_pair given (get_or w 2 0) (get_or w 3 0) and leb (get_or w 6 0) max_view_or_order
    and leb (get_or w 7 0) max_view_or_order and leb (get_or w 4 0) 1 and leb (get_or w 5 0) 1)
unfolding agreed_sound sound_bucket
agreed_is given w =
    ap (λ (k : Agreed). sound_bucket given k.primary k.backup k.last_primary k.last_backup k.last_sent k.taken
    and leb (get_or w 4 0) 1 and leb (get_or w 5 0) 1) (eight w)
