-- A sound state is read back from the words that it is rendered over, and what is rendered are words.
use mathlib.Core.Path.{◌≡◌, refl, sym, ap, ◌∙◌, fun_ext}
use mathlib.Core.List.{List, [], Memᴰ}
use mathlib.Core.Bool.{Bool, true, false}
use Prim.Native.Nat.{ℕ, ◌*◌, ◌/◌, ◌≤◌, ◌<◌}
use native.Mathlib.Nat.{mod-le}
use native.Mathlib.Omega.{arith}
use lib.ListN.{length}
use Rattle.lists.specs.Runs.{Below, none, more}
use Rattle.lists.proofs.Tests.{by, by_lt, clash}
use Rattle.rules.specs.declared.settings.Settings.{Settings}
use Rattle.rules.specs.Limits.{proxies, buckets, max_relays, max_items, max_waiting}
use Rattle.rules.specs.Numbers.{block_count, bucket_of, home_of, is_data}
use Rattle.rules.specs.Entries.{Entry}
use Rattle.rules.specs.Chunks.{Chunk}
use Rattle.rules.specs.State.{Relay, Bucket, State}
use Rattle.rules.specs.Limits.{Limits}
use Rattle.rules.proofs.Limits.{limits}
use Rattle.rules.proofs.Sound.{EntryOk, RelayOk, KeyOf, Sound}
use Rattle.rules.proofs.SoundTest.{facts_sound}
use Rattle.chunk_log.proofs.Codec.{log_back, log_small}
use Rattle.codec.specs.Codec.{Fits, word_limit, word, flag, fixed, ◌&◌, ◌then◌}
use Rattle.codec.proofs.Laws.{word_law, flag_law, fixed_law}
use Rattle.codec.proofs.Round.{fits_word, fits_flag, fits_fixed, fits_via, fits_two, fits_many, fits_table, fits_if_present}
use Rattle.layout.specs.Contents.{Copies, Brick, Contents, blank_agreed, blank_proxy, blank_copies, blank_brick, blank_place}
use Rattle.layout.specs.Contents.{relay_row, settings_reading, head_reading, agreed_reading, proxy_reading, status_reading}
use Rattle.layout.specs.Contents.{copies_reading, brick_reading, contents_reading}
use Rattle.layout.specs.Layout.{layout_version, entries_codec, settings_codec, head_codec, agreed_codec, items_codec, proxy_codec, bag_codec}
use Rattle.layout.specs.Layout.{status_codec, buffer_codec, copy_codec, copies_codec, all_copies_codec, log_codec, brick_codec, place_codec}
use Rattle.layout.specs.Layout.{all_agreed_codec, all_proxies_codec, all_places_codec, store_codec, settings_of, store_words}
use Rattle.layout.specs.Store.{to_state, brick_in, agreed_in, contents_of, decode, render}
use Rattle.layout.proofs.Codecs.{entry_exact, relay_exact, settings_law, head_law, agreed_law, proxy_law, bag_law, status_law, buffer_law}
use Rattle.layout.proofs.Codecs.{copy_law, copies_law, all_copies_law, place_law, all_agreed_law, all_proxies_law, disk_law}
use Rattle.layout.proofs.Views.{Proper, state_back}
use Rattle.layout.proofs.Sound.{SoundWords}

-- ---- rows
-- a key whose id is at most 255 is a word
key_small : (k given : ℕ) → home_of k ≤ given → given ≤ 255 → k < word_limit
key_small k given h g = omega arith

bucket_small : (count b : ℕ) → b < block_count → bucket_of count b < word_limit
unfolding bucket_of
bucket_small count b h = omega (arith, mod-le (b / 1024) count)

module _ (s : State) (sd : Sound s) where
  abbrev lim : Limits s.settings
  lim = limits s.settings sd.limits

  key_fits : (k : ℕ) → KeyOf s k → k < word_limit
  key_fits k o = key_small k s.given o.born sd.bricks.few

  rows_fit : (P : ℕ → Type 0) (most : ℕ) (l : List Entry) → most < word_limit → length l ≤ most
      → ((e : Entry) → Memᴰ e l → EntryOk (KeyOf s) P e) → Fits (entries_codec most) l
  rows_fit P most l m h t =
      fits_table entry_exact most l m h (λ e x. let k = t e x in more {b = e.block} (omega (arith, k.small))
      (more {b = e.key} (key_fits e.key k.key) none))

  relay_fits : (r : Relay) → RelayOk (KeyOf s) (buckets s.settings) r → Below word_limit (relay_row.write r)
  relay_fits r k =
      more {b = r.view} (omega (arith, k.view))
      (more {b = r.bucket} (rw k.bucket at (bucket_small (buckets s.settings) r.block k.small))
      (more {b = r.order} (omega (arith, k.order))
      (more {b = r.block} (omega (arith, k.small)) (more {b = r.key} (key_fits r.key k.key) none))))

  -- ---- the header, a bucket's record, a proxy
  head_fits : Fits head_codec (contents_of s).head
  head_fits =
      let l = lim in
      fits_via head_reading (fixed layout_version then settings_codec then word then word then word) (contents_of s).head refl
      (fits_two (fixed_law layout_version) (fits_fixed layout_version (omega arith))
      (fits_two settings_law
      (fits_via settings_reading (word then word then word then word) s.settings refl
      (fits_two word_law (fits_word s.settings.places (omega (arith, l.places_to)))
      (fits_two word_law (fits_word s.settings.size (omega (arith, l.size_to)))
      (fits_two word_law (fits_word s.settings.entries (omega (arith, l.entries_to))) (fits_word s.settings.chunks (omega (arith, l.chunks_to)))))))
      (fits_two word_law (fits_word s.view (omega (arith, sd.view_last)))
      (fits_two word_law (fits_word s.given (omega (arith, sd.bricks.few))) (fits_word s.started (omega (arith, sd.started, l.places_to)))))))

  agreed_fits : (g : ℕ) → g < buckets s.settings → Fits agreed_codec (agreed_in (s.bucket g))
  agreed_fits g h =
      let k = sd.buckets_ok g h in
      let few = sd.bricks.few in
      fits_via agreed_reading (word then word then word then word then flag then flag then word then word) (agreed_in (s.bucket g)) refl
      (fits_two word_law (fits_word _ (omega (arith, k.pair.one_born)))
      (fits_two word_law (fits_word _ (omega (arith, k.pair.two_born)))
      (fits_two word_law (fits_word _ (omega (arith, k.last.one_born)))
      (fits_two word_law (fits_word _ (omega (arith, k.last.two_born)))
      (fits_two flag_law (fits_flag (s.bucket g).ready)
      (fits_two flag_law (fits_flag (s.bucket g).fetched)
      (fits_two word_law (fits_word _ (omega (arith, k.last_sent))) (fits_word _ (omega (arith, k.taken))))))))))

  proxy_fits : (p : ℕ) → Fits proxy_codec ((contents_of s).proxy p)
  proxy_fits p =
      let t = sd.items p in
      fits_via proxy_reading (word then items_codec) ((contents_of s).proxy p) refl
      (fits_two word_law (fits_word (s.known p) (omega (arith, sd.known p))) (rows_fit _ max_items (s.items p) (omega arith) t.room t.each))

  -- ---- under an id that no place has, all is blank
  not_up : (i : ℕ) → s.bricks.present i ≡ false → s.bricks.up i ≡ false
  not_up i n = by (s.bricks.up i) (λ y. clash n (sd.bricks.up_present i y)) (λ z. z)

  no_copies : (i g : ℕ) → s.bricks.present i ≡ false → (brick_in s i).copies g ≡ blank_copies
  no_copies i g n =
      by_lt g (buckets s.settings)
      (λ _ h. let k = sd.buckets_ok g h in
      ap (λ (l : List Entry). record { memory = l; disk = (s.bucket g).disk i }) (k.blank_memory i n)
      ∙ ap (λ (l : List Entry). record { memory = []; disk = l }) (k.blank_disk i n))
      (λ _ h. ap (λ (k : Bucket). record { memory = k.memory i; disk = k.disk i }) (sd.no_bucket g h))

  blank : (i : ℕ) → s.bricks.present i ≡ false → brick_in s i ≡ blank_brick
  blank i n =
      let up = not_up i n in
      let member : s.bricks.member i ≡ false = by (s.bricks.member i) (λ y. clash up (sd.bricks.member_up i y)) (λ z. z) in
      let began : s.bricks.began i ≡ false = by (s.bricks.began i) (λ y. clash n (sd.bricks.began_here i y)) (λ z. z) in
      made n up member began (sd.numbers.blank_next i n) (sd.numbers.blank_ceiling i n) (sd.buffer_down i up) (fun_ext (λ g. no_copies i g n))
      (sd.log_blank i n)
    where
      made : {present up member began : Bool} {next ceiling : ℕ} {buffer : List Entry} {copies : ℕ → Copies} {log : List Chunk}
          → present ≡ false → up ≡ false → member ≡ false → began ≡ false → next ≡ 0 → ceiling ≡ 0 → buffer ≡ [] → copies ≡ (λ g. blank_copies) → log ≡ []
          → ◌≡◌ {A = Brick}
          (record {
            present = present;
            status = record { up = up; member = member; began = began; next = next; ceiling = ceiling };
            buffer = buffer;
            copies = copies;
            log = log;
          })
          blank_brick
      made a b c d e f g h i = cc

  gone : (i : ℕ) → ((p : ℕ) → p < s.settings.places → s.ids p ≡ i → 0 < i → ⊥) → s.bricks.present i ≡ false
  gone i u = by (s.bricks.present i) (λ y. let z = sd.bricks.somewhere i y in absurd (u z.0 z.1 z.2 (sd.bricks.first i y))) (λ n. n)

  pub proper : Proper s
  proper i u = blank i (gone i u)

  -- ---- a brick
  copies_fit : (g i : ℕ) → g < buckets s.settings → Fits (copies_codec s.settings) ((brick_in s i).copies g)
  copies_fit g i h =
      let l = lim in
      let k = sd.buckets_ok g h in
      let m : s.settings.entries < word_limit = omega (arith, l.entries_to) in
      fits_via copies_reading (copy_codec s.settings then copy_codec s.settings) ((brick_in s i).copies g) refl
      (fits_two (copy_law s.settings) (rows_fit _ s.settings.entries _ m (k.memory i).room (k.memory i).each)
      (rows_fit _ s.settings.entries _ m (k.disk i).room (k.disk i).each))

  copies_beyond : (i g : ℕ) → buckets s.settings ≤ g → (brick_in s i).copies g ≡ blank_copies
  copies_beyond i g h = ap (λ (k : Bucket). record { memory = k.memory i; disk = k.disk i }) (sd.no_bucket g h)

  log_fits : (i : ℕ) → Fits (log_codec s.settings) (s.bricks.log i)
  log_fits i =
      let l = lim in
      let width : ℕ = s.settings.size / 8 in
      let whole : 8 * (s.settings.size / 8) ≡ s.settings.size = omega (arith, l.size_words) in
      let each : (x : Chunk) → Memᴰ x (s.bricks.log i) → (x.key < word_limit) × (is_data (8 * width) x.bytes ≡ true) =
      λ x m. (key_fits x.key ((sd.logs i).each x m).key, rw whole ((sd.logs i).each x m).bytes) in
      record {
        back = λ w h. log_back s.settings.chunks width (s.bricks.log i) w h (sd.log_room i) (λ x m. (each x m).1);
        small = λ w h. log_small s.settings.chunks width (s.bricks.log i) w (omega (arith, l.chunks_to)) (sd.log_room i) each;
      }

  brick_fits : (i : ℕ) → s.bricks.present i ≡ true → Fits (brick_codec s.settings) (brick_in s i)
  brick_fits i y =
      let n = sd.numbers in
      let b = sd.buffers i in
      fits_via brick_reading (status_codec then buffer_codec then all_copies_codec s.settings then log_codec s.settings) (brick_in s i)
      (ap (λ (h : Bool). record {
        present = h;
        status = (brick_in s i).status;
        buffer = s.bricks.buffer i;
        copies = (brick_in s i).copies;
        log = s.bricks.log i;
      }) (sym y))
      (fits_two status_law
      (fits_via status_reading (flag then flag then flag then word then word) (brick_in s i).status refl
      (fits_two flag_law (fits_flag (s.bricks.up i))
      (fits_two flag_law (fits_flag (s.bricks.member i))
      (fits_two flag_law (fits_flag (s.bricks.began i))
      (fits_two word_law (fits_word (s.bricks.next i) (omega (arith, n.below i, n.most i)))
      (fits_word (s.bricks.ceiling i) (omega (arith, n.most i))))))))
      (fits_two buffer_law (rows_fit _ max_waiting (s.bricks.buffer i) (omega arith) b.room b.each)
      (fits_two (all_copies_law s.settings)
      (fits_many (copies_codec s.settings) (copies_law s.settings) (buckets s.settings) blank_copies (brick_in s i).copies
      (λ g h. copies_fit g i h) (copies_beyond i))
      (log_fits i))))

  -- ---- places and the store
  place_fits : (p : ℕ) → Fits (place_codec s.settings) ((contents_of s).place p)
  place_fits p =
      fits_if_present (brick_codec s.settings) blank_brick ((contents_of s).place p) (omega (arith, sd.bricks.born p, sd.bricks.few))
      (λ z. brick_fits (s.ids p) (sd.bricks.stands p z)) (λ z. proper (s.ids p) (λ q l e o. omega arith))

  place_beyond : (p : ℕ) → s.settings.places ≤ p → (contents_of s).place p ≡ blank_place
  place_beyond p h =
      ap (λ (i : ℕ). i & brick_in s i) (sd.bricks.beyond p h) ∙ ap (λ (b : Brick). 0 & b) (proper 0 (λ q l e o. omega arith))

  pub disk_fits : Fits (store_codec s.settings) (contents_of s)
  disk_fits =
      let c = s.settings in
      fits_via contents_reading (head_codec then all_agreed_codec c then all_proxies_codec then bag_codec then all_places_codec c) (contents_of s) refl
      (fits_two head_law head_fits
      (fits_two (all_agreed_law c)
      (fits_many agreed_codec agreed_law (buckets c) blank_agreed (contents_of s).agreed agreed_fits (λ g h. ap agreed_in (sd.no_bucket g h)))
      (fits_two all_proxies_law
      (fits_many proxy_codec proxy_law proxies blank_proxy (contents_of s).proxy (λ p h. proxy_fits p)
      (λ p h. ap (λ (k : ℕ). record { known = k; items = s.items p }) (sd.no_known p h)
      ∙ ap (λ (l : List Entry). record { known = 0; items = l }) (sd.no_items p h)))
      (fits_two bag_law (fits_table relay_exact max_relays s.bag (omega arith) sd.bag_room (λ r m. relay_fits r (sd.relays r m)))
      (fits_many (place_codec c) (place_law c) c.places blank_place (contents_of s).place (λ p h. place_fits p) place_beyond)))))

  -- ---- what is rendered is read back
  module _ (ws : List ℕ) (h : length ws ≡ store_words s.settings) where
    pub render_length : length (render s ws) ≡ store_words s.settings
    unfolding render
    render_length = (disk_law s.settings).keeps (contents_of s) ws h

    pub settings_kept : settings_of (render s ws) ≡ s.settings
    unfolding settings_of render
    settings_kept = ap (λ (d : Contents). d.head.settings) (disk_fits.back ws h)

    disk_read : (store_codec s.settings).dec (render s ws) ≡ contents_of s
    unfolding render
    disk_read = disk_fits.back ws h

    pub read_back : decode (render s ws) ≡ s
    unfolding decode
    read_back =
        ap (λ (c : Settings). to_state ((store_codec c).dec (render s ws))) settings_kept ∙ ap to_state disk_read ∙ state_back s proper

    -- what is rendered are words
    pub render_small : Below word_limit ws → Below word_limit (render s ws)
    unfolding render
    render_small b = disk_fits.small ws h b

    render_twice : render s (render s ws) ≡ render s ws
    unfolding render
    render_twice = (disk_law s.settings).idem (contents_of s) ws h

    -- and they are sound again
    pub render_sound : SoundWords (render s ws)
    render_sound = record {
      size = rw settings_kept render_length;
      still = ap (λ (t : State). render t (render s ws)) read_back ∙ render_twice;
      state = rw read_back (facts_sound s sd);
    }
