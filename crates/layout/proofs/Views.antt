-- The state by id and the store by place are one: there and back.
use mathlib.Core.Path.{◌≡◌, refl, sym, ap, ◌∙◌, fun_ext}
use mathlib.Core.Bool.{true, false}
use Prim.Native.Nat.{ℕ, ◌≤◌, ◌<◌}
use native.Mathlib.Omega.{arith}
use Rattle.lists.proofs.Tests.{by_eq, by_lt, impossible, clash}
use Rattle.rules.specs.Limits.{proxies, buckets}
use Rattle.rules.specs.State.{State, blank_bucket}
use Rattle.rules.proofs.Placed.{Placed}
use Rattle.codec.specs.Codec.{◌&◌}
use Rattle.layout.specs.Places.{Apart}
use Rattle.layout.specs.Contents.{Agreed, Proxy, Copies, Brick, Place, Contents, blank_agreed, blank_proxy, blank_copies, blank_brick}
use Rattle.layout.specs.Store.{brick_at, bucket_with, state_with, to_state, brick_in, contents_of}
use Rattle.layout.proofs.Places.{Seen, at_place, nowhere, of_cases, of_column}

-- nothing at an empty place, nor beyond the places, the buckets and the proxies; a brick at a place is here
pub record Tidy (d : Contents) : Type 0 where
  pub empty : (p : ℕ) → (d.place p).fst ≡ 0 → (d.place p).snd ≡ blank_brick
  pub present : (p : ℕ) → 0 < (d.place p).fst → (d.place p).snd.present ≡ true
  pub beyond : (p : ℕ) → d.head.settings.places ≤ p → (d.place p).fst ≡ 0
  pub no_copies : (p g : ℕ) → buckets d.head.settings ≤ g → (d.place p).snd.copies g ≡ blank_copies
  pub no_agreed : (g : ℕ) → buckets d.head.settings ≤ g → d.agreed g ≡ blank_agreed
  pub no_proxy : (p : ℕ) → proxies ≤ p → d.proxy p ≡ blank_proxy

-- ---- from places to ids
module _ (d : Contents) (t : Tidy d) where
  seen : (i : ℕ) → Seen d.head.settings.places (λ p. (d.place p).fst) blank_brick (λ p. (d.place p).snd) i (brick_at d i)
  unfolding brick_at
  seen i = of_cases d.head.settings.places (λ p. (d.place p).fst) blank_brick (λ p. (d.place p).snd) i

  -- a brick that is here stands at a place
  pub stands_at : (i : ℕ) → (brick_at d i).present ≡ true → (p : ℕ) × (p < d.head.settings.places) × ((d.place p).fst ≡ i)
  stands_at i y = elim (seen i) [ at_place p l e o v ↦ (p, l, e) | nowhere u v ↦ impossible (sym (ap (λ (b : Brick). b.present) v) ∙ y) ]

  -- one that is not here is blank
  pub blank_at : (i : ℕ) → (brick_at d i).present ≡ false → brick_at d i ≡ blank_brick
  blank_at i n = elim (seen i) [
    | at_place p l e o v ↦ clash (sym (ap (λ (b : Brick). b.present) v) ∙ n) (t.present p (omega arith))
    | nowhere u v ↦ v
  ]

  -- a brick at a place is here under its id
  pub present_at : (p : ℕ) → 0 < (d.place p).fst → (brick_at d (d.place p).fst).present ≡ true
  present_at p h =
      by_lt p d.head.settings.places
      (λ _ l. elim (seen (d.place p).fst) [
        | at_place q m e o v ↦ ap (λ (b : Brick). b.present) v ∙ t.present q (omega arith)
        | nowhere u v ↦ absurd (u p l refl h)
      ])
      (λ _ l. absurd (omega (arith, t.beyond p l)))

  copies_at_none : (i g : ℕ) → buckets d.head.settings ≤ g → (brick_at d i).copies g ≡ blank_copies
  copies_at_none i g h = elim (seen i) [
    | at_place p l e o v ↦ ap (λ (b : Brick). b.copies g) v ∙ t.no_copies p g h
    | nowhere u v ↦ ap (λ (b : Brick). b.copies g) v
  ]

  bucket_none : (g : ℕ) → buckets d.head.settings ≤ g → (to_state d).bucket g ≡ blank_bucket
  bucket_none g h =
      ap (λ (k : Agreed). bucket_with k g (brick_at d)) (t.no_agreed g h)
      ∙ ap (λ (f : ℕ → Copies). record {
        primary = 0;
        backup = 0;
        last_primary = 0;
        last_backup = 0;
        ready = false;
        fetched = false;
        last_sent = 0;
        taken = 0;
        memory = λ i. (f i).memory;
        disk = λ i. (f i).disk;
      }) (fun_ext (λ i. copies_at_none i g h))

  -- what is seen by id has the columns of the places
  pub placed : Placed (to_state d)
  placed = record {
    beyond = t.beyond;
    stands = present_at;
    somewhere = stands_at;
    no_zero = elim (seen 0) [ at_place p l e o v ↦ absurd (omega arith) | nowhere u v ↦ ap (λ (b : Brick). b.present) v ];
    blank_up = λ i n. ap (λ (b : Brick). b.status.up) (blank_at i n);
    blank_member = λ i n. ap (λ (b : Brick). b.status.member) (blank_at i n);
    blank_began = λ i n. ap (λ (b : Brick). b.status.began) (blank_at i n);
    blank_next = λ i n. ap (λ (b : Brick). b.status.next) (blank_at i n);
    blank_ceiling = λ i n. ap (λ (b : Brick). b.status.ceiling) (blank_at i n);
    blank_log = λ i n. ap (λ (b : Brick). b.log) (blank_at i n);
    blank_buffer = λ i n. ap (λ (b : Brick). b.buffer) (blank_at i n);
    blank_memory = λ g i n. ap (λ (b : Brick). (b.copies g).memory) (blank_at i n);
    blank_disk = λ g i n. ap (λ (b : Brick). (b.copies g).disk) (blank_at i n);
    no_bucket = bucket_none;
    no_items = λ p h. ap (λ (x : Proxy). x.items) (t.no_proxy p h);
    no_known = λ p h. ap (λ (x : Proxy). x.known) (t.no_proxy p h);
  }

  -- the brick at a place is seen under its id
  module _ (apart : Apart d.head.settings.places (λ p. (d.place p).fst)) where
    pub brick_back : (p : ℕ) → brick_at d (d.place p).fst ≡ (d.place p).snd
    brick_back p = elim (seen (d.place p).fst) [
      | at_place q l e o v ↦ v ∙ ap (λ (r : ℕ). (d.place r).snd) (apart q p l (inside p o) e (omega arith))
      | nowhere u v ↦ v ∙ sym (t.empty p (gone u))
    ]
      where
        inside : (p : ℕ) → 0 < (d.place p).fst → p < d.head.settings.places
        inside p o = by_lt p d.head.settings.places (λ _ l. l) (λ _ l. absurd (omega (arith, t.beyond p l)))

        gone : ((q : ℕ) → q < d.head.settings.places → (d.place q).fst ≡ (d.place p).fst → 0 < (d.place p).fst → ⊥) → (d.place p).fst ≡ 0
        gone u = by_eq (d.place p).fst 0 (λ _ e. e) (λ _ e. let o : 0 < (d.place p).fst = omega arith in absurd (u p (inside p o) refl o))

    pub disk_back : contents_of (to_state d) ≡ d
    disk_back =
        ap (λ (f : ℕ → Place). record { head = d.head; agreed = d.agreed; proxy = d.proxy; bag = d.bag; place = f })
        (fun_ext (λ p. ap (λ (b : Brick). (d.place p).fst & b) (brick_back p)))

-- ---- from ids to places
-- nothing under an id that stands nowhere
abbrev pub Proper : State → Type 0
Proper s = (i : ℕ) → ((p : ℕ) → p < s.settings.places → s.ids p ≡ i → 0 < i → ⊥) → brick_in s i ≡ blank_brick

pub state_back : (s : State) → Proper s → to_state (contents_of s) ≡ s
unfolding brick_at
state_back s r = ap (state_with (contents_of s)) (fun_ext (λ i. of_column s.settings.places s.ids blank_brick (brick_in s) i (r i)))
