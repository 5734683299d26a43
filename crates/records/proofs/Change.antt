-- What a change of one field does to the words of a part.
use mathlib.Core.Path.{◌≡◌, refl, ap, sym, ◌∙◌}
use mathlib.Core.List.{List, [], ◌∷◌}
use Prim.Native.Nat.{ℕ, zero, suc, ◌<◌}
use native.Mathlib.Omega.{arith}
use lib.ListN.{length, drop, get_or, set}
use Rattle.lists.specs.Runs.{run, on_run}
use Rattle.rules.specs.declared.settings.Settings.{Settings}
use Rattle.codec.specs.Codec.{Clean, change, enc_if_present}
use Rattle.codec.proofs.Focus.{◌through◌, part_changed, write_word, if_present_none, if_present_some}
use Rattle.layout.specs.Contents.{Status}
use Rattle.layout.specs.Layout.{proxy_codec, status_codec, brick_codec, place_codec, proxy_words, place_words, up_at, status_words}
use Rattle.layout.proofs.Clean.{proxy_any}
use Rattle.layout.proofs.Foci.{known_in, status_in, brick_in_place}
use Rattle.records.specs.Records.{with_known, with_id, with_status}

-- ---- a proxy
pub known_changed : (view : ℕ) (w : List ℕ) → length w ≡ proxy_words → set w 0 view ≡ change proxy_codec (with_known view) w
known_changed view w h =
    sym (write_word known_in (proxy_codec.dec w) (with_known view (proxy_codec.dec w)) w h refl
    ∙ ap (λ (v : List ℕ). set v 0 view) (proxy_any.clean w h tt))

-- ---- a place that holds a brick
module _ (c : Settings) (w : List ℕ) (h : length w ≡ place_words c) (z : 0 < ((place_codec c).dec w).fst) where
  pub status_seen : status_codec.dec (run up_at status_words w) ≡ ((place_codec c).dec w).snd.status
  status_seen = sym ((brick_in_place c through status_in c).read w h ((refl, z), refl))

  module _ (k : Clean (place_codec c) w) where
    pub status_changed : (s : Status) → on_run up_at status_words (status_codec.enc s) w ≡ change (place_codec c) (with_status s) w
    status_changed s = sym (part_changed (brick_in_place c through status_in c) (with_status s) w h k ((refl, z), refl))

    -- the words past the id stay, whether or not the new id is 0
    rest_stays : (i : ℕ) → enc_if_present (brick_codec c) i ((place_codec c).dec w).snd (drop 1 w) ≡ drop 1 w
    rest_stays zero = if_present_none (brick_codec c) zero ((place_codec c).dec w).snd (drop 1 w) refl
    rest_stays (suc i) =
        if_present_some (brick_codec c) (suc i) ((place_codec c).dec w).snd (drop 1 w) (omega arith)
        ∙ sym (if_present_some (brick_codec c) (get_or w 0 0) ((place_codec c).dec w).snd (drop 1 w) z)
        ∙ ap (drop 1) k

    pub id_changed : (i : ℕ) → set w 0 i ≡ change (place_codec c) (with_id i) w
    id_changed i = set_first w (omega arith) ∙ ap (λ (v : List ℕ). i ∷ v) (sym (rest_stays i))
      where
        set_first : (v : List ℕ) → 0 < length v → set v 0 i ≡ i ∷ drop 1 v
        set_first [] p = absurd (omega arith)
        set_first (x ∷ v) p = refl
