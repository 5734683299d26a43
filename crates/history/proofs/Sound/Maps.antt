-- map, send, deliver, drop, savemap, done, abandon, learn and reset keep a store sound.
use mathlib.Core.Path.{◌≡◌, refl, ap}
use mathlib.Core.List.{List, [], ◌∷◌, ◌++◌}
use mathlib.Core.Bool.{true}
use Prim.Native.Nat.{ℕ, ◌<◌}
use native.Mathlib.Omega.{arith}
use lib.Dec.{ltb}
use lib.ListN.{length, length-append}
use borrow.Author.Tests.{ltb-true}
use Rattle.lists.specs.Tests.{◌or◌}
use Rattle.lists.proofs.Columns.{upd_blank}
use Rattle.lists.proofs.Tests.{either, and_l, or_second, if_so, one_more, get_or_in}
use Rattle.rules.specs.Limits.{buckets, max_relays, max_waiting, max_view_or_order}
use Rattle.rules.specs.Entries.{Entry, entry, has, remove, takes}
use Rattle.rules.specs.State.{State, blank_relay, blank_bucket, with_copies}
use Rattle.rules.specs.Derived.{up_member, bucket_at, primary_memory, backup_memory, item}
use Rattle.rules.specs.Question.{AllYes, is_proxy, primary_up, has_item}
use Rattle.rules.specs.Maps.{map_asks, map_effect, send_asks, new_relay, send_effect, relay_at, is_taken, deliver_asks, remove_at, deliver_effect, drop_effect}
use Rattle.rules.specs.Maps.{savemap_asks, saved_bucket, savemap_effect, item_goes, learn_effect, reset_effect}
use Rattle.rules.proofs.Entries.{has_entry}
use Rattle.rules.proofs.Derived.{bucket_below}
use Rattle.rules.proofs.Sound.{EntryOk, RelayOk, KeyOf, Sound}
use Rattle.rules.proofs.SoundTest.{table_none}
use Rattle.history.proofs.Sound.Lists.{table_insert, table_only, buffer_append, remove_at_in, length_remove_at}
use Rattle.history.proofs.Sound.Groups.{one_buffer, one_memory, one_disk, copies, bucket_ok, new_copies, one_bucket, all_buckets, BagOk}
use Rattle.history.proofs.Sound.Groups.{one_items, one_known, groups, new_parts, member_here}

module _ {s : State} (v : Sound s) where
  -- ---- map: the entry that an item makes
  item_ok : {P : ℕ → Type 0} (p b : ℕ) → has (s.items p) b ≡ true → P b → EntryOk (KeyOf s) P (entry b (item s p b))
  item_ok p b y q =
      let t = has_entry (s.items p) b y in
      let e = (v.items p).each t.0 t.1 in
      record { mine = q; small = rw (← t.2) e.small; key = rw t.3 e.key }

  pub map_sound : (p b : ℕ) → AllYes (map_asks s p b) → Sound (map_effect s p b)
  unfolding map_effect
  map_sound p b y =
      let k = bucket_at s b in
      let x = k.primary in
      let up : primary_up s b ≡ true = search in
      let with_item : has_item s p b ≡ true = search in
      let inside = bucket_below s.settings b in
      let f = v.buckets_ok _ inside in
      let g = groups v in
      either Sound k.ready
      (λ ready.
      let room : takes s.settings.entries (primary_memory k) b ≡ true = if_so k.ready _ (search) ready in
      let memory = one_memory (copies f) x (member_here v x up) (and_l _ _ up) (table_insert b _ (f.memory x) room (item_ok p b with_item refl)) in
      new_parts v g.logs g.buffers (one_bucket g.bucket _ inside (new_copies f memory)) g.bag g.items g.known)
      (λ unready.
      let few : (k.ready or ltb (length (s.bricks.buffer x)) max_waiting) ≡ true = search in
      let room = ltb-true _ _ (or_second _ _ few unready) in
      let buffer = one_buffer g.buffers x (and_l _ _ up) (buffer_append _ (v.buffers x) room (item_ok p b with_item tt)) in
      new_parts v g.logs buffer g.bucket g.bag g.items g.known)

  -- ---- send
  pub send_sound : (b : ℕ) → AllYes (send_asks s b) → Sound (send_effect s b)
  unfolding send_effect
  send_sound b y =
      let k = bucket_at s b in
      let inside = bucket_below s.settings b in
      let f = v.buckets_ok _ inside in
      let t = has_entry (primary_memory k) b search in
      let e = (f.memory k.primary).each t.0 t.1 in
      let room : length s.bag < max_relays = search ltb-true in
      let few : k.last_sent < max_view_or_order = search ltb-true in
      let new : RelayOk (KeyOf s) (buckets s.settings) (new_relay s b)
      = record { view = v.view_last; bucket = refl; order = few; small = search ltb-true; key = rw t.3 e.key } in
      let bag : BagOk (KeyOf s) (buckets s.settings) (s.bag ++ (new_relay s b ∷ []))
      = record {
        room = omega (arith, length-append s.bag (new_relay s b ∷ []));
        each = one_more s.bag v.relays new;
      } in
      let g = groups v in
      new_parts v g.logs g.buffers (one_bucket g.bucket _ inside (bucket_ok f.pair f.last few f.taken (copies f))) bag g.items g.known

  -- ---- deliver, drop
  fewer : (n : ℕ) → BagOk (KeyOf s) (buckets s.settings) (remove_at s.bag n)
  fewer n = record { room = omega (arith, length_remove_at s.bag n, v.bag_room); each = λ r m. v.relays r (remove_at_in s.bag n m) }

  pub drop_sound : (n : ℕ) → Sound (drop_effect s n)
  unfolding drop_effect
  drop_sound n = let g = groups v in new_parts v g.logs g.buffers g.bucket (fewer n) g.items g.known

  pub deliver_sound : (n : ℕ) → AllYes (deliver_asks s n) → Sound (deliver_effect s n)
  unfolding deliver_effect drop_effect
  deliver_sound n y =
      let r = relay_at s n in
      let k = s.bucket r.bucket in
      let x = k.backup in
      let g = groups v in
      either Sound (is_taken s n)
      (λ taken.
      let o = v.relays r (get_or_in s.bag n blank_relay (search ltb-true)) in
      let inside : r.bucket < buckets s.settings = rw o.bucket at (bucket_below s.settings r.block) in
      let f = v.buckets_ok r.bucket inside in
      let up : up_member s x ≡ true = if_so (is_taken s n) _ (search) taken in
      let room : takes s.settings.entries (backup_memory k) r.block ≡ true = if_so (is_taken s n) _ (search) taken in
      let new = table_insert r.block r.key (f.memory x) room (record { mine = o.bucket; small = o.small; key = o.key }) in
      let memory = one_memory (copies f) x (member_here v x up) (and_l _ _ up) new in
      let bucket = one_bucket g.bucket r.bucket inside (bucket_ok f.pair f.last f.last_sent o.order memory) in
      new_parts v g.logs g.buffers bucket (fewer n) g.items g.known)
      (λ _. drop_sound n)

  -- ---- savemap
  pub savemap_sound : (i : ℕ) → AllYes (savemap_asks s i) → Sound (savemap_effect s (s.ids i))
  unfolding savemap_effect
  savemap_sound i y =
      let x = s.ids i in
      let up : up_member s x ≡ true = search in
      let g = groups v in
      let bucket = all_buckets g.bucket (saved_bucket x) (ap (λ (d : ℕ → List Entry). with_copies blank_bucket (λ i. []) d) (upd_blank [] x))
      (λ g o. new_copies o (one_disk (copies o) x (member_here v x up) (and_l _ _ up) (o.memory x))) in
      new_parts v g.logs g.buffers bucket g.bag g.items g.known

  -- ---- done, abandon, learn, reset
  pub item_goes_sound : (p b : ℕ) → is_proxy p ≡ true → Sound (item_goes s p b)
  unfolding item_goes remove
  item_goes_sound p b y =
      let g = groups v in
      new_parts v g.logs g.buffers g.bucket g.bag (one_items g.items p (ltb-true _ _ y) (table_only _ (v.items p))) g.known

  pub learn_sound : (p : ℕ) → is_proxy p ≡ true → Sound (learn_effect s p)
  unfolding learn_effect
  learn_sound p y =
      let g = groups v in
      new_parts v g.logs g.buffers g.bucket g.bag g.items (one_known p g.known (ltb-true _ _ y) v.view_last)

  pub reset_sound : (p : ℕ) → is_proxy p ≡ true → Sound (reset_effect s p)
  unfolding reset_effect
  reset_sound p y =
      let g = groups v in
      let present = ltb-true p _ y in
      new_parts v g.logs g.buffers g.bucket g.bag (one_items g.items p present table_none) (one_known p g.known present (omega arith))
