-- What put does to the state and the words: the place of its brick, then the proxy's items.
use mathlib.Core.Path.{◌≡◌, refl, sym, ap, ◌∙◌}
use mathlib.Core.List.{List, ◌++◌}
use mathlib.Core.Bool.{true, false}
use mathlib.Core.Logic.{inl, inr}
use Prim.Native.Nat.{ℕ, suc, ◌+◌, ◌*◌, ◌-◌, ◌<◌}
use native.Mathlib.Numerals.{add-one}
use native.Mathlib.Omega.{arith}
use lib.Dec.{ltb, leb}
use lib.ListN.{length, take, drop}
use borrow.Author.Tests.{eqb-true, ltb-true, leb-true, lt-ltb, not-true}
use Rattle.lists.specs.Tests.{◌or◌}
use Rattle.lists.proofs.Tests.{and_l, or_cases}
use Rattle.lists.proofs.Columns.{upd_same, upd_other}
use Rattle.words.specs.Words.{words}
use Rattle.rules.specs.declared.settings.Settings.{Settings}
use Rattle.rules.specs.Limits.{proxies, max_items, ceiling_step}
use Rattle.rules.specs.Numbers.{sequences, is_data}
use Rattle.rules.specs.Entries.{Entry, insert, takes}
use Rattle.rules.specs.State.{State}
use Rattle.rules.specs.Question.{AllYes, has_item}
use Rattle.rules.specs.Writes.{put_asks, new_key, raised, put_effect}
use Rattle.codec.specs.Codec.{change}
use Rattle.codec.proofs.Focus.{Focus}
use Rattle.tables.specs.Tables.{Sorted}
use Rattle.entries.specs.Entries.{entry_words}
use Rattle.entries.proofs.Words.{takes_room}
use Rattle.layout.specs.Contents.{Status, Place}
use Rattle.layout.specs.Layout.{items_codec, store_codec, proxy_at, items_at}
use Rattle.layout.specs.Store.{contents_of, decode, render}
use Rattle.layout.proofs.Foci.{items_focus}
use Rattle.lent.specs.Stores.{StoreOf}
use Rattle.lent.proofs.Stores.{settings_are, facts}
use Rattle.lent.proofs.Places.{up_filled}
use Rattle.lent.proofs.Parts.{copy_part}
use Rattle.lent.proofs.Effects.{later_value, later_effect}
use Rattle.lent.proofs.LentPlace.{ChangesPlace, Filled, brick_changes, LentPlace, part, part_read, part_brick}
use Rattle.writes.specs.Logs.{with_chunk}
use Rattle.writes.specs.Puts.{counted, put_in, put_bricks, PutFits}
use Rattle.writes.proofs.Logs.{room_left}

-- ---- the place
pub put_changes : (s : State) (p : ℕ) → Filled s p → (bytes : List ℕ)
    → ChangesPlace s (put_bricks s (s.ids p) bytes) p (put_in (new_key s (s.ids p)) bytes)
put_changes s p at bytes =
    let id = s.ids p in
    let next = suc (s.bricks.next id) in
    let ceiling = raised (s.bricks.next id) (s.bricks.ceiling id) in
    let log = with_chunk (new_key s id) bytes (s.bricks.log id) in
    brick_changes s (put_bricks s id bytes) p (put_in (new_key s id) bytes) at refl
    (record {
      head = refl;
      agreed = refl;
      proxy = refl;
      bag = refl;
      ids = refl;
      others = λ i n. rw (upd_other s.bricks.next id i next n, upd_other s.bricks.ceiling id i ceiling n, upd_other s.bricks.log id i log n);
    })
    (rw (upd_same s.bricks.next id next, upd_same s.bricks.ceiling id ceiling, upd_same s.bricks.log id log))

-- the status that the brick gets
pub status_counted : (r s : Status) (next ceiling : ℕ) → r ≡ s → next ≡ r.next + 1 → ceiling ≡ raised r.next r.ceiling
    → ◌≡◌ {A = Status} (record { up = r.up; member = r.member; began = r.began; next = next; ceiling = ceiling }) (counted s)
status_counted r s next ceiling e n m = rw (n, m, add-one r.next) (ap counted e)

-- ---- what the answers say
pub record PutMay (c : Settings) (s : State) (proxy place block : ℕ) (bytes : List ℕ) : Type 0 where
  pub proxy_in : proxy < proxies
  pub place_in : place < c.places
  pub filled : 0 < s.ids place
  pub named : s.ids place < 256
  pub none : has_item s proxy block ≡ false
  pub items : length (s.items proxy) < max_items
  pub room : length (s.bricks.log (s.ids place)) < c.chunks
  pub next : s.bricks.next (s.ids place) < sequences
  pub size : length bytes ≡ c.size

module _ (c : Settings) (bs : List ℕ) (so : StoreOf c bs) (proxy place block : ℕ) (bytes : List ℕ) where
  abbrev s : State
  s = decode (words bs)

  data_size : (size : ℕ) → is_data size bytes ≡ true → length bytes ≡ size
  unfolding is_data
  data_size size y = eqb-true (length bytes) size (and_l _ _ y)

  number : (ltb (s.bricks.next (s.ids place)) (s.bricks.ceiling (s.ids place)) or leb (s.bricks.ceiling (s.ids place) + ceiling_step) sequences) ≡ true
      → s.bricks.next (s.ids place) < sequences
  number y =
      let id = s.ids place in
      let below = (facts c bs so).numbers.below id in
      let most = (facts c bs so).numbers.most id in
      elim (or_cases _ _ y) [
        | inl l ↦ omega (arith, ltb-true (s.bricks.next id) (s.bricks.ceiling id) l)
        | inr l ↦ omega (arith, leb-true (s.bricks.ceiling id + ceiling_step) sequences l)
      ]

  pub put_may : AllYes (put_asks s proxy place block bytes) → PutMay c s proxy place block bytes
  put_may y =
      let asks = y.1.1.1.1.1 in
      let live = asks.0 in
      let same = settings_are c bs so in
      let born = (facts c bs so).bricks.born place in
      let few = (facts c bs so).bricks.few in
      record {
        proxy_in = ltb-true proxy proxies y.0;
        place_in = rw same at (ltb-true place s.settings.places y.1.0);
        filled = up_filled c bs so place (and_l _ _ live);
        named = omega arith;
        none = not-true _ asks.1.0;
        items = ltb-true (length (s.items proxy)) max_items asks.1.1.0;
        room = rw same at (ltb-true (length (s.bricks.log (s.ids place))) s.settings.chunks asks.1.1.1.0);
        next = number asks.1.1.1.1.0;
        size = data_size s.settings.size y.1.1.1.0 ∙ ap (λ (d : Settings). d.size) same;
      }

-- ---- the place's part may take the chunk
pub put_fits : {bs : List ℕ} {c : Settings} {p from to : ℕ} (l : LentPlace bs c p from to) {proxy block : ℕ} {bytes : List ℕ}
    → PutMay c (decode (words bs)) proxy p block bytes → PutFits c (words (part l)) (length (part l)) bytes
put_fits {bs} {c} {p} l may =
    let s = decode (words bs) in
    let id = s.ids p in
    let brick = part_brick l may.filled in
    let read = part_read l in
    let next = ap (λ (v : Place). v.snd.status.next) read in
    let ceiling = ap (λ (v : Place). v.snd.status.ceiling) read in
    let below = (facts c bs l.store).numbers.below id in
    let most = (facts c bs l.store).numbers.most id in
    record {
      brick = brick;
      next = omega arith;
      ceiling = omega arith;
      room = room_left l may.filled may.room;
      size = may.size;
    }

-- ---- the proxy's items, bytes o to e after the place changed
module _ {c : Settings} {bs : List ℕ} (so : StoreOf c bs) {proxy place block : ℕ} {bytes : List ℕ}
    (may : PutMay c (decode (words bs)) proxy place block bytes) (v : List ℕ)
    (same : words v ≡ render (put_bricks (decode (words bs)) ((decode (words bs)).ids place) bytes) (words bs)) (long : length v ≡ length bs)
    (o e : ℕ) (eo : o ≡ 8 * (proxy_at c proxy + items_at)) (ee : e ≡ o + 8 * items_codec.size) where
  abbrev old : State
  old = decode (words bs)

  abbrev id : ℕ
  id = old.ids place

  abbrev between : State
  between = put_bricks old id bytes

  abbrev items : Focus (store_codec c) items_codec
  items = items_focus c proxy may.proxy_in

  here : items.Else (contents_of old) (contents_of old)
  here = ((((refl, refl), refl), λ j l z. refl), refl)

  still : items_codec.dec (words (take (e - o) (drop o v))) ≡ old.items proxy
  still = later_value c bs so items here between refl refl v same long o e eo ee ((((refl, refl), refl), λ j l z. refl), refl)

  pub items_take : length (take (e - o) (drop o v)) ≡ 8 * items_codec.size
      → Sorted entry_words max_items (words (take (e - o) (drop o v))) (length (take (e - o) (drop o v)))
      × (takes max_items (items_codec.dec (words (take (e - o) (drop o v)))) block ≡ true)
  items_take l = (
    (copy_part max_items (old.items proxy) (take (e - o) (drop o v)) l still ((facts c bs so).items proxy).room ((facts c bs so).items proxy).sorted).sorted,
    rw still (takes_room max_items (old.items proxy) block may.none ∙ lt-ltb (length (old.items proxy)) max_items may.items),
  )

  pub item_added : (key : ℕ) → key ≡ new_key old id → (t : List ℕ) → length t ≡ 8 * items_codec.size
      → words t ≡ change items_codec (λ l. insert l block key) (words (take (e - o) (drop o v)))
      → words (take o v ++ (t ++ drop (e - o) (drop o v))) ≡ render (put_effect old proxy id block bytes) (words bs)
  unfolding put_effect
  item_added key q t l w =
      let new = insert (old.items proxy) block (new_key old id) in
      later_effect c bs so items here between refl refl v same long o e eo ee (put_effect old proxy id block bytes) refl (
        (
          ((refl, refl), refl),
          λ j l z. ap (λ (i : List Entry). record { known = old.known j; items = i }) (sym (upd_other old.items proxy j new z)),
        ),
        refl,
      )
      t l (λ x. insert x block key)
      (upd_same old.items proxy new ∙ ap (insert (old.items proxy) block) (sym q)) w
