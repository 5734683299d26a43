-- put, copy and savelog keep a store sound.
use mathlib.Core.Path.{◌≡◌, refl, ap}
use mathlib.Core.List.{List, [], ◌∷◌, Memᴰ}
use mathlib.Core.Bool.{Bool, true, false}
use mathlib.Core.Logic.{◌⊎◌, inl, inr}
use Prim.Native.Nat.{ℕ, suc, ◌+◌, ◌≤◌, ◌<◌}
use native.Mathlib.Omega.{arith}
use lib.Dec.{eqb, ltb, leb}
use lib.ListN.{length, length-append}
use borrow.Author.Tests.{eqb-true, eq-eqb, ltb-true, leb-true}
use Rattle.lists.specs.Tests.{◌or◌}
use Rattle.lists.specs.Columns.{upd}
use Rattle.lists.proofs.Tests.{by, by_eq, either, clash, both, or_cases, or_l, or_r, or_second}
use Rattle.lists.proofs.Columns.{upd_same, upd_all, upd_up}
use Rattle.rules.specs.Limits.{ceiling_step}
use Rattle.rules.specs.Numbers.{sequences, home_of}
use Rattle.rules.specs.Entries.{takes}
use Rattle.rules.specs.Chunks.{new_chunk, held, bytes_in, save_all}
use Rattle.rules.specs.State.{State, set_bricks}
use Rattle.rules.specs.Derived.{up_member, members_from}
use Rattle.rules.specs.Question.{AllYes}
use Rattle.rules.specs.Writes.{put_asks, new_key, raised, put_effect, other_than, target, nothing_to_copy, copy_asks, copy_effect, savelog_asks, savelog_effect}
use Rattle.rules.proofs.Chunks.{held_in, length_save}
use Rattle.rules.proofs.Derived.{ids_in, home_key, sequence_key, members_from_in}
use Rattle.rules.proofs.Sound.{KeyOk, ChunkOk, KeyOf, Sound}
use Rattle.history.proofs.Sound.Lists.{table_insert, log_append, log_save}
use Rattle.history.proofs.Sound.Groups.{next_grows, logs_map, one_log, buffers_map, buckets_map, bag_map, items_map, one_items}
use Rattle.history.proofs.Sound.Groups.{groups, from_groups, member_here, log_sound}

-- ---- put
module _ {s : State} (v : Sound s) (p i b : ℕ) (d : List ℕ) (y : AllYes (put_asks s p i b d)) where
  abbrev brick : ℕ
  brick = s.ids i

  abbrev next : ℕ
  next = s.bricks.next brick

  abbrev ceiling : ℕ
  ceiling = s.bricks.ceiling brick

  abbrev New : ℕ → Type 0
  New = KeyOk s.given s.bricks.present (upd s.bricks.next brick (suc next))

  brick_here : s.bricks.present brick ≡ true
  brick_here = member_here v brick search

  -- question 12
  numbers_left : (ltb next ceiling or leb (ceiling + ceiling_step) sequences) ≡ true
  numbers_left = search

  next_inside : next < sequences
  next_inside =
      elim (or_cases _ _ numbers_left) [
        | inl e ↦ omega (arith, ltb-true, v.numbers.most brick)
        | inr e ↦ omega (arith, leb-true, v.numbers.below brick)
      ]

  raised_most : raised next ceiling ≤ sequences
  unfolding raised
  raised_most =
      by_eq next ceiling
      (λ q e. rw q (elim (or_cases _ _ numbers_left) [ inl z ↦ absurd (omega (arith, ltb-true)) | inr z ↦ leb-true _ _ z ]))
      (λ q e. rw q (v.numbers.most brick))

  raised_below : (j : ℕ) → upd s.bricks.next brick (suc next) j ≤ upd s.bricks.ceiling brick (raised next ceiling) j
  unfolding raised upd
  raised_below j =
      by_eq j brick (λ q e. rw q (by_eq next ceiling (λ t z. rw t (omega arith)) (λ t z. rw t (omega (arith, v.numbers.below brick)))))
      (λ q _. rw q (v.numbers.below j))

  key_new : New (new_key s brick)
  key_new = record {
    home = omega (arith, home_key brick next next_inside, v.bricks.first brick brick_here);
    born = omega (arith, home_key brick next next_inside, v.bricks.born i);
    used = λ _. rw (home_key brick next next_inside, upd_same s.bricks.next brick (suc next)) (omega (arith, sequence_key brick next next_inside));
  }

  -- the new key is at its brick's next, so its log doesn't hold it
  key_unheld : held (s.bricks.log brick) (new_key s brick) ≡ false
  key_unheld =
      by (held (s.bricks.log brick) (new_key s brick))
      (λ z.
      let t = held_in (s.bricks.log brick) (new_key s brick) z in
      let u : KeyOf s (new_key s brick) = rw t.2 at ((v.logs brick).each t.0 t.1).key in
      let h = home_key brick next next_inside in
      absurd (omega (arith, u.used (rw h brick_here), ap s.bricks.next h, sequence_key brick next next_inside)))
      (λ z. z)

  pub put_sound : Sound (put_effect s p brick b d)
  unfolding put_effect takes
  put_sound =
      let k = s.bricks in
      let g = groups v in
      let room : length (k.log brick) < s.settings.chunks = search ltb-true in
      let more : (j : ℕ) → KeyOf s j → New j = λ j. next_grows brick (suc next) (omega arith) in
      let logs = logs_map g.logs more in
      let items = items_map g.items more in
      from_groups (record {
        limits = v.limits;
        bricks = v.bricks;
        numbers = record {
          below = raised_below;
          most = upd_all (λ _ m. m ≤ sequences) k.ceiling brick _ v.numbers.most raised_most;
          blank_next = upd_up k.present (λ _ m. m ≡ 0) k.next brick _ brick_here v.numbers.blank_next;
          blank_ceiling = upd_up k.present (λ _ m. m ≡ 0) k.ceiling brick _ brick_here v.numbers.blank_ceiling;
        };
        view_first = v.view_first;
        view_last = v.view_last;
        started = v.started;
        logs = one_log logs brick brick_here (log_append (logs.each brick) _ key_unheld (record { key = key_new; bytes = search }))
            (omega (arith, length-append (k.log brick) (new_chunk (new_key s brick) false d ∷ [])));
        buffers = buffers_map g.buffers more;
        bucket = buckets_map g.bucket more;
        bag = bag_map g.bag more;
        items = one_items items p (search ltb-true) (table_insert b _ (items.each p) (or_r _ _ search)
            (record { mine = search eqb-true; small = search ltb-true; key = key_new }));
        known = g.known;
      })

-- ---- copy, savelog
other_in : (h : ℕ) (l : List ℕ) → (other_than h l ≡ 0) ⊎ Memᴰ (other_than h l) l
unfolding other_than
other_in h [] = inl refl
other_in h (i ∷ l) =
    either (λ z. (z ≡ 0) ⊎ Memᴰ z (i ∷ l)) (eqb i h) (λ _. elim (other_in h l) [ inl e ↦ inl e | inr m ↦ inr (Memᴰ.tail m) ])
    (λ _. inr (Memᴰ.head refl))

module _ {s : State} (v : Sound s) where
  -- a chunk that is held somewhere, put elsewhere
  pub held_ok : (x k : ℕ) (saved : Bool) → held (s.bricks.log x) k ≡ true
      → ChunkOk (KeyOf s) s.settings.size (new_chunk k saved (bytes_in (s.bricks.log x) k))
  held_ok x k saved y =
      let t = held_in (s.bricks.log x) k y in
      let u = (v.logs x).each t.0 t.1 in
      record { key = rw t.2 at u.key; bytes = rw t.3 u.bytes }

  -- where there is a target, it is an up member
  target_up : (k : ℕ) → (target s k ≡ 0) ⊎ (up_member s (target s k) ≡ true)
  unfolding target
  target_up k =
      elim (other_in (home_of k) (members_from s (home_of k))) [
        | inl e ↦ inl e
        | inr m ↦ let y = (ids_in _ _ _ (members_from_in s (home_of k) _ m)).2 in inr (both _ _ (v.bricks.member_up _ y) y)
      ]

  pub copy_sound : (k : ℕ) → AllYes (copy_asks s k) → Sound (copy_effect s k)
  unfolding copy_effect
  copy_sound k y =
      let t = target s k in
      let l = s.bricks.log t in
      let new = new_chunk k false (bytes_in (s.bricks.log (home_of k)) k) in
      either (λ b. Sound (set_bricks s b)) (nothing_to_copy s k) (λ _. v)
      (λ q.
      let unheld : held l k ≡ false = by (held l k) (λ z. clash q (or_r _ _ z)) (λ z. z) in
      let up : up_member s t ≡ true = elim (target_up k) [ inl e ↦ clash q (or_l _ _ (eq-eqb t 0 e)) | inr z ↦ z ] in
      let enough : (nothing_to_copy s k or ltb (length l) s.settings.chunks) ≡ true = search in
      let room : length l < s.settings.chunks = ltb-true _ _ (or_second _ _ enough q) in
      log_sound v t up (log_append (v.logs t) new unheld (held_ok (home_of k) k false search))
      (omega (arith, length-append l (new ∷ []))))

  pub savelog_sound : (i : ℕ) → AllYes (savelog_asks s i) → Sound (savelog_effect s (s.ids i))
  unfolding savelog_effect save_all
  savelog_sound i y =
      let x = s.ids i in
      log_sound v x (search) (log_save (v.logs x) (λ k. true)) (omega (arith, length_save (λ k. true) (s.bricks.log x), v.log_room x))
