-- One bucket changed: its record, or one brick's copies of it.
use mathlib.Core.Path.{◌≡◌, refl, sym, ap, ◌∙◌, fun_ext}
use Prim.Native.Nat.{ℕ, ◌<◌}
use lib.Dec.{eqb}
use Rattle.lists.specs.Columns.{upd}
use Rattle.lists.proofs.Tests.{by, by_eq}
use Rattle.lists.proofs.Columns.{upd_same, upd_other}
use Rattle.rules.specs.declared.settings.Settings.{Settings}
use Rattle.rules.specs.Limits.{buckets}
use Rattle.rules.specs.State.{State, Bucket, set_buckets, set_bucket}
use Rattle.codec.specs.Codec.{◌&◌}
use Rattle.codec.proofs.Focus.{Focus, ◌through◌}
use Rattle.layout.specs.Places.{Apart}
use Rattle.layout.specs.Contents.{Copies, Brick, Place}
use Rattle.layout.specs.Layout.{copy_codec, store_codec}
use Rattle.layout.specs.Store.{brick_in, agreed_in, contents_of}
use Rattle.layout.proofs.Foci.{agreed_focus, place_focus}
use Rattle.layout.proofs.Changes.{OneBrick, only_brick}
use Rattle.lent.proofs.Parts.{memory_of, disk_of}

-- ---- a bucket changed to what it is
pub same_bucket : (s : State) (g : ℕ) → set_bucket s g (s.bucket g) ≡ s
unfolding upd
same_bucket s g =
    let same : upd s.bucket g (s.bucket g) ≡ s.bucket = fun_ext (λ h. by_eq h g (λ q e. rw (q, e)) (λ q _. rw q)) in
    ap (λ (f : ℕ → Bucket). set_buckets s f) same

module _ (s : State) (g : ℕ) (k l : Bucket) where
  pub records_same : agreed_in k ≡ agreed_in l → (contents_of (set_bucket s g k)).agreed ≡ (contents_of (set_bucket s g l)).agreed
  unfolding upd
  records_same e = fun_ext (λ h. by (eqb h g) (λ q. rw q e) (λ q. rw q refl))

  pub brick_same : (i : ℕ) → k.memory i ≡ l.memory i → k.disk i ≡ l.disk i → brick_in (set_bucket s g k) i ≡ brick_in (set_bucket s g l) i
  unfolding upd
  brick_same i m d = ap made (fun_ext (λ h. by (eqb h g) (λ q. rw (q, m, d) refl) (λ q. rw q refl)))
    where
      made : (ℕ → Copies) → Brick
      made copies = record {
        present = s.bricks.present i;
        status = (brick_in s i).status;
        buffer = s.bricks.buffer i;
        copies = copies;
        log = s.bricks.log i;
      }

  -- one brick's copies
  pub one_copied : (x : ℕ) → agreed_in k ≡ agreed_in l → ((i : ℕ) → (i ≡ x → ⊥) → k.memory i ≡ l.memory i)
      → ((i : ℕ) → (i ≡ x → ⊥) → k.disk i ≡ l.disk i) → OneBrick (set_bucket s g k) (set_bucket s g l) x
  one_copied x e m d = record {
    head = refl;
    agreed = records_same e;
    proxy = refl;
    bag = refl;
    ids = refl;
    others = λ i n. brick_same i (m i n) (d i n);
  }

  -- the record
  pub record_alone : (c : Settings) (h : g < buckets c) → ((i : ℕ) → k.memory i ≡ l.memory i) → ((i : ℕ) → k.disk i ≡ l.disk i)
      → (agreed_focus c g h).Else (contents_of (set_bucket s g k)) (contents_of (set_bucket s g l))
  record_alone c h m d =
      let places : (contents_of (set_bucket s g k)).place ≡ (contents_of (set_bucket s g l)).place =
      fun_ext (λ p. ap (λ (b : Brick). s.ids p & b) (brick_same (s.ids p) (m (s.ids p)) (d (s.ids p)))) in (
        (refl, ap (λ (f : ℕ → Place). (λ p. record { known = s.known p; items = s.items p }) & s.bag & f) places),
        λ j z n. ap agreed_in (upd_other s.bucket g j k n ∙ sym (upd_other s.bucket g j l n)),
      )

-- ---- where a copy lies in the store
module _ (c : Settings) (p : ℕ) (hp : p < c.places) (g : ℕ) (hg : g < buckets c) where
  abbrev pub memory_at : Focus (store_codec c) (copy_codec c)
  memory_at = place_focus c p hp through memory_of c g hg

  abbrev pub disk_at : Focus (store_codec c) (copy_codec c)
  disk_at = place_focus c p hp through disk_of c g hg

  module _ (s : State) (k : Bucket) where
    pub see_memory : memory_at.see (contents_of (set_bucket s g k)) ≡ k.memory (s.ids p)
    see_memory = ap (λ (b : Bucket). b.memory (s.ids p)) (upd_same s.bucket g k)

    pub see_disk : disk_at.see (contents_of (set_bucket s g k)) ≡ k.disk (s.ids p)
    see_disk = ap (λ (b : Bucket). b.disk (s.ids p)) (upd_same s.bucket g k)

    module _ (l : Bucket) (u : Apart c.places s.ids) (o : 0 < s.ids p) (e : agreed_in k ≡ agreed_in l) where
      others_same : (j : ℕ) → j < buckets c → (j ≡ g → ⊥) → ((contents_of (set_bucket s g k)).place p).snd.copies j ≡ ((contents_of (set_bucket s g l)
          ).place p).snd.copies j
      others_same j z n =
          let copies : Bucket → Copies = λ b. record { memory = b.memory (s.ids p); disk = b.disk (s.ids p) } in
          ap copies (upd_other s.bucket g j k n ∙ sym (upd_other s.bucket g j l n))

      pub memory_alone : ((i : ℕ) → (i ≡ s.ids p → ⊥) → k.memory i ≡ l.memory i) → ((i : ℕ) → k.disk i ≡ l.disk i)
          → memory_at.Else (contents_of (set_bucket s g k)) (contents_of (set_bucket s g l))
      memory_alone m d = (
        (only_brick c (set_bucket s g k) (set_bucket s g l) p hp u o (one_copied s g k l (s.ids p) e m (λ i _. d i))).0,
        (((refl, o), (((refl, refl), refl), others_same)), see_disk ∙ d (s.ids p) ∙ sym (ap (λ (b : Bucket). b.disk (s.ids p)) (upd_same s.bucket g l))),
      )

      pub disk_alone : ((i : ℕ) → k.memory i ≡ l.memory i) → ((i : ℕ) → (i ≡ s.ids p → ⊥) → k.disk i ≡ l.disk i)
          → disk_at.Else (contents_of (set_bucket s g k)) (contents_of (set_bucket s g l))
      disk_alone m d = (
        (only_brick c (set_bucket s g k) (set_bucket s g l) p hp u o (one_copied s g k l (s.ids p) e (λ i _. m i) d)).0,
        (
          ((refl, o), (((refl, refl), refl), others_same)),
          see_memory ∙ m (s.ids p)
              ∙ sym (ap (λ (b : Bucket). b.memory (s.ids p)) (upd_same s.bucket g l)),
        ),
      )

  -- any state agrees with itself but for a copy at a place with a brick
  pub memory_self : (s : State) → 0 < s.ids p → memory_at.Else (contents_of s) (contents_of s)
  memory_self s o = (((((refl, refl), refl), refl), λ j z n. refl), (((refl, o), (((refl, refl), refl), λ j z n. refl)), refl))

  pub disk_self : (s : State) → 0 < s.ids p → disk_at.Else (contents_of s) (contents_of s)
  disk_self s o = (((((refl, refl), refl), refl), λ j z n. refl), (((refl, o), (((refl, refl), refl), λ j z n. refl)), refl))
