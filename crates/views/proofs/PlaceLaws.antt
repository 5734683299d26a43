-- What the writes of a place leave as a view begins.
use mathlib.Core.Path.{◌≡◌, refl, sym, ap, ◌∙◌}
use mathlib.Core.List.{List, [], ◌∷◌}
use Prim.Native.Nat.{ℕ, ◌<◌}
use native.Mathlib.Omega.{arith}
use lib.ListN.{length, drop, get_or}
use Rattle.lists.specs.Runs.{on_run}
use Rattle.lists.proofs.Rows.{count_cons}
use Rattle.rules.specs.declared.settings.Settings.{Settings}
use Rattle.codec.specs.Codec.{Clean, change}
use Rattle.codec.proofs.Changes.{part_written}
use Rattle.codec.proofs.Focus.{if_present_none}
use Rattle.layout.specs.Contents.{Status, Place}
use Rattle.layout.specs.Layout.{brick_codec, place_codec, buffer_codec, place_words, buffer_at}
use Rattle.layout.proofs.Foci.{buffer_of}
use Rattle.records.specs.Records.{with_status}
use Rattle.views.specs.Begin.{begun_status, begun}

module _ (c : Settings) (w : List ℕ) (h : length w ≡ place_words c) where
  -- an empty place stays as it is
  pub begin_empty : ((place_codec c).dec w).fst ≡ 0 → w ≡ change (place_codec c) begun w
  begin_empty z =
      count_cons w (omega arith)
      ∙ ap (λ (v : List ℕ). get_or w 0 0 ∷ v) (sym (if_present_none (brick_codec c) (get_or w 0 0) (begun ((place_codec c).dec w)).snd (drop 1 w) z))

  -- one with a brick: its status is written, then its buffer emptied
  pub begin_brick : Clean (place_codec c) w → 0 < ((place_codec c).dec w).fst → (s : Status) → s ≡ begun_status ((place_codec c).dec w).snd.status
      → (w1 w2 : List ℕ)
      → w1 ≡ change (place_codec c) (with_status s) w → w2 ≡ on_run buffer_at buffer_codec.size (buffer_codec.enc []) w1
      → w2 ≡ change (place_codec c) begun w
  begin_brick k z s es w1 w2 e1 e2 =
      let place : Place = (place_codec c).dec w in
      e2 ∙ ap (on_run buffer_at buffer_codec.size (buffer_codec.enc [])) (e1 ∙ ap (λ (x : Status). change (place_codec c) (with_status x) w) es)
      ∙ part_written (buffer_of c) w h k ((refl, z), (refl, refl)) (with_status (begun_status place.snd.status) place) (begun place)
      ((refl, z), (refl, refl)) refl (buffer_codec.enc []) refl
