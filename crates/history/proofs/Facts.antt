-- What soundness and the invariant of the ageing rule say of keys, items and bricks.
use mathlib.Core.Path.{◌≡◌, subst}
use mathlib.Core.List.Memᴰ
use mathlib.Core.List.{List, [], Memᴰ}
use mathlib.Core.Bool.{Bool, true, false}
use mathlib.Core.Logic.{◌⊎◌, inl, inr}
use Prim.Native.Nat.{ℕ, suc, ◌≤◌, ◌<◌}
use native.Mathlib.Omega.{arith}
use Rattle.lists.specs.Columns.{upd}
use Rattle.lists.proofs.Tests.{by, by_lt}
use Rattle.lists.proofs.Columns.{upd_other, upd_all, unflag}
use Rattle.rules.specs.Limits.{buckets}
use Rattle.rules.specs.Entries.{Entry, key_for, has}
use Rattle.rules.specs.State.{Bucket, Relay, State, set_parts, set_lists}
use Rattle.rules.specs.Derived.{item}
use Rattle.rules.proofs.Entries.{has_entry, no_entry}
use Rattle.rules.proofs.Sound.{KeyOk, TableOk, Sound}
use Rattle.history.specs.Claim.{History, number}
use Rattle.history.proofs.Copies.{Role, ReliedOn}
use Rattle.history.proofs.AgeingInvariant.{Writes, Newest, Sent, Readable, BucketAge, AgeingInvariant}

-- ---- keys
pub key_first : {given : ℕ} {present : ℕ → Bool} {next : ℕ → ℕ} (k : ℕ) → KeyOk given present next k → 0 < k
key_first k o = omega (arith, o.home)

-- what is read in a table is 0 or a key of an entry
pub key_for_key : {K P : ℕ → Type 0} {most : ℕ} (l : List Entry) (b : ℕ) → TableOk K P most l → (key_for l b ≡ 0) ⊎ K (key_for l b)
key_for_key l b o =
    by (has l b) (λ y. let t = has_entry l b y in inr (rw t.3 (o.each t.0 t.1).key)) (λ n. inl (no_entry l b n))

-- ---- bricks
module _ (s : State) (o : Sound s) where
  pub present_born : (i : ℕ) → s.bricks.present i ≡ true → i ≤ s.given
  present_born i y = let t = o.bricks.somewhere i y in omega (arith, o.bricks.born t.0, t.2)

  pub brick_here : (i : ℕ) → s.bricks.member i ≡ true → s.bricks.present i ≡ true
  brick_here i y = o.bricks.up_present i (o.bricks.member_up i y)

-- ---- a brick that joins has an id never given; one that is lost is relied on no more
module _ (s : State) where
  pub not_joined : (i : ℕ) → i ≤ s.given → i ≡ suc s.given → ⊥
  not_joined i l e = omega arith

  pub joined_here : (i : ℕ) → i ≤ s.given → upd s.bricks.present (suc s.given) true i ≡ true → s.bricks.present i ≡ true
  joined_here i l y = rw (upd_other s.bricks.present (suc s.given) i true (not_joined i l)) at y

  pub joined_relied : Sound s → (g : ℕ) → g < buckets s.settings → (i : ℕ) → ReliedOn (upd s.bricks.present (suc s.given) true) (s.bucket g) i
      → ReliedOn s.bricks.present (s.bucket g) i × (i ≡ suc s.given → ⊥)
  joined_relied o g z i r = let l = born r.role in (record { is_present = joined_here i l r.is_present; role = r.role }, not_joined i l)
    where
      born : let k = s.bucket g in Role k.primary k.last_primary k.last_backup k.fetched i → i ≤ s.given
      born (inl e) = omega (arith, e, (o.buckets_ok g z).last.one_born)
      born (inr (inl e)) = omega (arith, e, (o.buckets_ok g z).last.two_born)
      born (inr (inr e)) = omega (arith, e.1, (o.buckets_ok g z).pair.one_born)

  pub lost_relied : (x : ℕ) (k : Bucket) (i : ℕ) → ReliedOn (upd s.bricks.present x false) k i → ReliedOn s.bricks.present k i × (i ≡ x → ⊥)
  lost_relied x k i r = let t = unflag s.bricks.present x i r.is_present in (record { is_present = t.0; role = r.role }, t.1)

-- ---- the history
module _ (s : State) (h : History) (v : AgeingInvariant s h) where
  -- key 0 is no write's
  pub zero_number : (b : ℕ) → number (h.writes b) 0 ≡ 0
  zero_number b = by_lt 0 (number (h.writes b) 0) (λ _ z. let t = key_first 0 (v.keys b 0 z) in absurd (omega arith)) (λ _ z. omega arith)

  -- an item's key is the block's last write
  pub item_newest : (p b : ℕ) → has (s.items p) b ≡ true → Newest h.writes b (item s p b)
  item_newest p b y =
      let t = has_entry (s.items p) b y in
      rw t.3 (subst (λ (c : ℕ). Newest h.writes c t.0.key) t.2 (v.items p t.0 t.1))

-- an event that leaves the history, keys, items and logs alone
pub moves_ageing : {s : State} {h : History} {buffer : ℕ → List Entry} {bucket : ℕ → Bucket} {bag : List Relay} → AgeingInvariant s h
    → ((r : Relay) → Memᴰ r bag → Sent h.writes s.view r)
    → ((g : ℕ) → g < buckets s.settings
    → BucketAge h.writes h.mark (buckets s.settings) s.view bag buffer s.bricks.present s.bricks.member g (bucket g))
    → AgeingInvariant (set_parts s (set_lists s.bricks s.bricks.log buffer) bucket bag s.items s.known) h
moves_ageing v relays each = record { keys = v.keys; marked = v.marked; items = v.items; logs = v.logs; relays = relays; buckets = each }

-- ---- a smaller buffer
pub readable_fewer : {w : Writes} {mark : ℕ → ℕ} {count : ℕ} {buffer buffer' : ℕ → List Entry} {g : ℕ}
    → ((i : ℕ) (e : Entry) → Memᴰ e (buffer' i) → Memᴰ e (buffer i))
    → (b k : ℕ) → Readable w mark count buffer g b k → Readable w mark count buffer' g b k
readable_fewer f b k t = record { known = t.known; floor = t.floor; waits = λ i e m. t.waits i e (f i e m) }

pub emptied : (buffer : ℕ → List Entry) (x i : ℕ) (e : Entry) → Memᴰ e (upd buffer x [] i) → Memᴰ e (buffer i)
emptied buffer x = upd_all (λ i l. (e : Entry) → Memᴰ e l → Memᴰ e (buffer i)) buffer x [] (λ i e m. m) (λ e m. absurd (Memᴰ.not-nil m))
