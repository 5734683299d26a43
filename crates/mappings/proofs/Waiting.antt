-- A brick's append buffer takes an entry: what that makes of a lent store.
use mathlib.Core.Path.{◌≡◌, refl, sym, ap, ◌∙◌}
use mathlib.Core.List.{List, [], ◌∷◌, ◌++◌}
use Prim.Native.Nat.{ℕ, ◌+◌, ◌*◌, ◌-◌, ◌<◌}
use native.Mathlib.Omega.{arith}
use lib.ListN.{length, get_or, take, drop}
use Rattle.lists.proofs.Columns.{upd_same, upd_other}
use Rattle.words.specs.Words.{words}
use Rattle.rules.specs.declared.settings.Settings.{Settings}
use Rattle.rules.specs.Limits.{max_waiting}
use Rattle.rules.specs.Entries.{Entry, entry}
use Rattle.rules.specs.State.{State}
use Rattle.tables.specs.Tables.{IsTable}
use Rattle.codec.specs.Codec.{change}
use Rattle.layout.specs.Contents.{entry_row}
use Rattle.layout.specs.Layout.{buffer_codec, buffer_at, place_at}
use Rattle.layout.specs.Store.{brick_in, decode, render}
use Rattle.layout.proofs.Changes.{OneBrick}
use Rattle.layout.proofs.Foci.{buffer_in}
use Rattle.entries.specs.Entries.{entry_words}
use Rattle.lent.specs.Stores.{StoreOf}
use Rattle.lent.proofs.Stores.{facts}
use Rattle.entries.proofs.Tables.{count_is, is_table}
use Rattle.mappings.specs.Copies.{with_waiting}
use Rattle.lent.proofs.Effects.{brick_value, brick_effect}

waiting_one : (s : State) (id block key : ℕ) → OneBrick s (with_waiting s id block key) id
unfolding with_waiting
waiting_one s id block key = record {
  head = refl;
  agreed = refl;
  proxy = refl;
  bag = refl;
  ids = refl;
  others = λ i q. ap (λ (l : List Entry). record {
    present = (brick_in s i).present;
    status = (brick_in s i).status;
    buffer = l;
    copies = (brick_in s i).copies;
    log = (brick_in s i).log;
  }) (sym (upd_other s.bricks.buffer id i (s.bricks.buffer id ++ (entry block key ∷ [])) q));
}

module _ (c : Settings) (bs : List ℕ) (v : StoreOf c bs) (p : ℕ) (h : p < c.places) (z : 0 < (decode (words bs)).ids p) (o e : ℕ)
    (eo : o ≡ 8 * (place_at c p + buffer_at)) (ee : e ≡ o + 8 * buffer_codec.size) where
  buffer_read : buffer_codec.dec (words (take (e - o) (drop o bs))) ≡ (decode (words bs)).bricks.buffer ((decode (words bs)).ids p)
  buffer_read = brick_value c bs v p h z (buffer_in c) (refl, refl) o e (omega arith) ee

  pub buffer_table : length (take (e - o) (drop o bs)) ≡ 8 * buffer_codec.size
      → IsTable entry_words max_waiting (words (take (e - o) (drop o bs))) (length (take (e - o) (drop o bs)))
  buffer_table n =
      is_table entry_row max_waiting ((decode (words bs)).bricks.buffer ((decode (words bs)).ids p)) ((facts c bs v).buffers ((decode (words bs)).ids p)).room
      (words (take (e - o) (drop o bs))) buffer_read (length (take (e - o) (drop o bs))) n

  pub buffer_counts : get_or (words (take (e - o) (drop o bs))) 0 0 ≡ length ((decode (words bs)).bricks.buffer ((decode (words bs)).ids p))
  buffer_counts = sym (count_is entry_row max_waiting (words (take (e - o) (drop o bs)))) ∙ ap length buffer_read

  pub waited : (block key : ℕ) (part : List ℕ) → length part ≡ 8 * buffer_codec.size
      → words part ≡ change buffer_codec (λ l. l ++ entry block key ∷ []) (words (take (e - o) (drop o bs)))
      → words (take o bs ++ (part ++ drop (e - o) (drop o bs)))
      ≡ render (with_waiting (decode (words bs)) ((decode (words bs)).ids p) block key) (words bs)
  unfolding with_waiting
  waited block key part lp ep =
      let s = decode (words bs) in
      brick_effect c bs v p h z (buffer_in c) (with_waiting s (s.ids p) block key) refl (waiting_one s (s.ids p) block key) (refl, refl)
      (λ l. l ++ entry block key ∷ []) (upd_same s.bricks.buffer (s.ids p) (s.bricks.buffer (s.ids p) ++ (entry block key ∷ [])))
      part o e (omega arith) ee lp ep
