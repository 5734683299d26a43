-- Relays in a table's words.
use mathlib.Core.Path.{◌≡◌, refl, sym, ap, ◌∙◌}
use mathlib.Core.List.{List, [], ◌∷◌, ◌++◌}
use Prim.Native.Nat.{ℕ, zero, suc, ◌≤◌, ◌<◌}
use native.Mathlib.Omega.{arith}
use lib.ListN.{length, get_or, length-append, length-take, length-drop}
use Rattle.rules.specs.Limits.{max_relays}
use Rattle.rules.specs.State.{Relay, blank_relay}
use Rattle.rules.specs.Maps as maps
use Rattle.lists.specs.Rows.{table_dec, table_enc, row_words}
use Rattle.tables.specs.Tables.{insert_at, without_index}
use Rattle.codec.proofs.Loops.{table_is}
use Rattle.layout.specs.Contents.{relay_row}
use Rattle.layout.specs.Layout.{bag_codec, bag_words}
use Rattle.layout.proofs.Codecs.{relay_exact}
use Rattle.tables.proofs.Typed.{typed_length, typed_append, typed_remove, typed_at}
use Rattle.bag.specs.Relays.{relay_in_words}

-- row i gone, as the rules say it
removed_is : (l : List Relay) (i : ℕ) → without_index i l ≡ maps.remove_at l i
unfolding maps.remove_at
removed_is [] zero = refl
removed_is [] (suc i) = refl
removed_is (r ∷ l) zero = refl
removed_is (r ∷ l) (suc i) = ap (λ (k : List Relay). r ∷ k) (removed_is l i)

abbrev relays : List ℕ → List Relay
relays ws = bag_codec.dec ws

module _ (ws : List ℕ) (hl : length ws ≡ bag_words) (few : get_or ws 0 0 ≤ max_relays) where
  relays_length : length (relays ws) ≡ get_or ws 0 0
  relays_length = typed_length relay_exact max_relays ws hl few

  pub row_is : (i : ℕ) → i < get_or ws 0 0 → get_or (table_dec 5 row_words ws) i [] ≡ relay_row.write (relay_in_words ws i)
  row_is i h = typed_at relay_exact max_relays ws hl few i blank_relay h

  pub append_leaves : (n : ℕ) (r : Relay) → n ≡ get_or ws 0 0 → get_or ws 0 0 < max_relays
      → table_enc 5 row_words (insert_at n (relay_row.write r) (table_dec 5 row_words ws)) ws ≡ bag_codec.enc (relays ws ++ r ∷ []) ws
  append_leaves n r e h =
      let m = relays_length in
      typed_append relay_exact max_relays ws hl few n r e ∙ sym (table_is relay_row max_relays (relays ws ++ r ∷ []) ws (rw length-append (omega arith)))

  pub remove_leaves : (i : ℕ) → table_enc 5 row_words (without_index i (table_dec 5 row_words ws)) ws ≡ bag_codec.enc (maps.remove_at (relays ws) i) ws
  remove_leaves i =
      let m = relays_length in
      typed_remove relay_exact max_relays ws hl few i
      ∙ sym (table_is relay_row max_relays (without_index i (relays ws)) ws (simp (length-append, length-take, length-drop) (omega arith)))
      ∙ ap (λ (l : List Relay). bag_codec.enc l ws) (removed_is (relays ws) i)
