-- The copies that may be read later: those of a bucket's last ready pair, and of its primary once it has fetched, where some place holds the brick. What is
-- asked of the keys in them is a parameter, `P` of a block and its key: that it is no lower than a mark, or that its chunk is kept.
use mathlib.Core.Path.{◌≡◌, refl, sym, subst, ◌∙◌}
use mathlib.Core.List.{List, [], Memᴰ}
use mathlib.Core.Bool.{Bool, true, false}
use mathlib.Core.Logic.{◌⊎◌, inl, inr}
use Prim.Native.Nat.{ℕ}
use Rattle.lists.specs.Columns.{upd}
use Rattle.lists.proofs.Tests.{by_eq, impossible}
use Rattle.lists.proofs.Columns.{upd_same, upd_other, upd_all}
use Rattle.rules.specs.Entries.{Entry, key_for, insert, drain}
use Rattle.rules.specs.State.{Bucket}
use Rattle.rules.specs.Derived.{primary_memory, agree}
use Rattle.rules.proofs.Entries.{key_for_insert, drain_from}
use Rattle.rules.proofs.Derived.{agree_all}

abbrev pub Role : ℕ → ℕ → ℕ → Bool → ℕ → Type 0
Role primary last_primary last_backup fetched i = (i ≡ last_primary) ⊎ ((i ≡ last_backup) ⊎ ((fetched ≡ true) × (i ≡ primary)))

pub record Relied (present : ℕ → Bool) (primary last_primary last_backup : ℕ) (fetched : Bool) (i : ℕ) : Type 0 where
  pub is_present : present i ≡ true
  pub role : Role primary last_primary last_backup fetched i

-- in a new view no primary has fetched; and fetching adds the primary alone
module _ {present : ℕ → Bool} {last_primary last_backup i : ℕ} where
  pub relied_anew : (p q : ℕ) (f : Bool) → Relied present p last_primary last_backup false i → Relied present q last_primary last_backup f i
  relied_anew p q f r = record {
    is_present = r.is_present;
    role = elim r.role [ inl e ↦ inl e | inr t ↦ elim t [ inl e ↦ inr (inl e) | inr e ↦ impossible e.0 ] ];
  }

  pub relied_before : (p : ℕ) (f : Bool) → Relied present p last_primary last_backup true i → (i ≡ p → ⊥) → Relied present p last_primary last_backup f i
  relied_before p f r n = record {
    is_present = r.is_present;
    role = elim r.role [ inl e ↦ inl e | inr t ↦ elim t [ inl e ↦ inr (inl e) | inr e ↦ absurd (n e.1) ] ];
  }

abbrev pub ReliedOn : (ℕ → Bool) → Bucket → ℕ → Type 0
ReliedOn present k = Relied present k.primary k.last_primary k.last_backup k.fetched

-- `P` of what a copy gives each block
abbrev pub In : (ℕ → ℕ → Type 0) → List Entry → Type 0
In P l = (b : ℕ) → P b (key_for l b)

-- and that in memory and on disk, of the bricks that `R` picks
pub record Copies (P : ℕ → ℕ → Type 0) (R : ℕ → Type 0) (m d : ℕ → List Entry) : Type 0 where
  pub memory : (i : ℕ) → R i → In P (m i)
  pub disk : (i : ℕ) → R i → In P (d i)

pub copies_map : (P Q : ℕ → ℕ → Type 0) {R S : ℕ → Type 0} {m d : ℕ → List Entry}
    → ((b k : ℕ) → P b k → Q b k) → ((i : ℕ) → S i → R i) → Copies P R m d → Copies Q S m d
copies_map P Q f g v = record { memory = λ i r b. f b _ (v.memory i (g i r) b); disk = λ i r b. f b _ (v.disk i (g i r) b) }

module _ (P : ℕ → ℕ → Type 0) where
  pub in_insert : (l : List Entry) (b k : ℕ) → In P l → P b k → In P (insert l b k)
  in_insert l b k f p c = rw (key_for_insert l b k c) (upd_all P (key_for l) b k f p c)

  pub in_drain : (most : ℕ) (l c : List Entry) → In P c → ((e : Entry) → Memᴰ e l → P e.block e.key) → In P (drain most c l)
  in_drain most l c f w b =
      elim (drain_from most l c b) [
        | inl e ↦ subst (P b) (sym e) (f b)
        | inr t ↦ subst (P b) (sym t.3) (subst (λ (x : ℕ). P x t.0.key) t.2 (w t.0 t.1))
      ]

  -- ---- one brick's copies changed
  module _ {R : ℕ → Type 0} {m d : ℕ → List Entry} (v : Copies P R m d) (x : ℕ) where
    abbrev Good : ℕ → List Entry → Type 0
    Good i l = R i → In P l

    -- the block gets a key in memory
    pub copies_insert : (b k : ℕ) → P b k → Copies P R (upd m x (insert (m x) b k)) d
    copies_insert b k p = record { memory = upd_all Good m x _ v.memory (λ r. in_insert (m x) b k (v.memory x r) p); disk = v.disk }

    -- memory goes to disk, or what is on disk to memory
    pub copies_saved : Copies P R m (upd d x (m x))
    copies_saved = record { memory = v.memory; disk = upd_all Good d x _ v.disk (v.memory x) }

    pub copies_crashed : Copies P R (upd m x (d x)) d
    copies_crashed = record { memory = upd_all Good m x _ v.memory (v.disk x); disk = v.disk }

    -- nothing is left of a brick that is not relied on any more
    pub copies_blank : {S : ℕ → Type 0} → ((i : ℕ) → S i → R i × (i ≡ x → ⊥)) → Copies P S (upd m x []) (upd d x [])
    copies_blank g = record {
      memory = λ i r. let t = g i r in rw (upd_other m x i [] t.1) (v.memory i t.0);
      disk = λ i r. let t = g i r in rw (upd_other d x i [] t.1) (v.disk i t.0);
    }

    -- a copy from elsewhere, in memory and on disk; the brick may be relied on from then on
    pub copies_fetched : {S : ℕ → Type 0} (l : List Entry) → In P l → ((i : ℕ) → S i → (i ≡ x → ⊥) → R i) → Copies P S (upd m x l) (upd d x l)
    unfolding upd
    copies_fetched l p g = record {
      memory = λ i r. by_eq i x (λ q _. rw q p) (λ q n. rw q (v.memory i (g i r n)));
      disk = λ i r. by_eq i x (λ q _. rw q p) (λ q n. rw q (v.disk i (g i r n)));
    }

  -- the copies of a pair that has just become ready
  pub copies_ready : (present : ℕ → Bool) (p c : ℕ) (f : Bool) (m d : ℕ → List Entry) (l drained saved : List Entry) → (c ≡ p → ⊥)
      → In P l → In P drained → In P saved → Copies P (Relied present p p c f) (upd (upd m c l) p drained) (upd (upd d c l) p saved)
  copies_ready present p c f m d l drained saved apart at_backup in_memory on_disk = record {
    memory = λ i r. at m drained in_memory i r.role;
    disk = λ i r. at d saved on_disk i r.role;
  }
    where
      at : (o : ℕ → List Entry) (t : List Entry) → In P t → (i : ℕ) → Role p p c f i → In P (upd (upd o c l) p t i)
      at o t q i (inl e) = rw (e, upd_same (upd o c l) p t) q
      at o t q i (inr (inl e)) = rw (e, upd_other (upd o c l) p c t apart, upd_same o c l) at_backup
      at o t q i (inr (inr e)) = rw (e.1, upd_same (upd o c l) p t) q

-- ---- a ready bucket: its last ready pair is its pair
pub record SamePair (primary backup last_primary last_backup : ℕ) : Type 0 where
  pub one : primary ≡ last_primary
  pub two : backup ≡ last_backup

abbrev pub Same : Bucket → Type 0
Same k = SamePair k.primary k.backup k.last_primary k.last_backup

module _ (k : Bucket) (same : Same k) where
  pub primary_relied : {present : ℕ → Bool} → present k.primary ≡ true → ReliedOn present k k.primary
  primary_relied y = record { is_present = y; role = inl same.one }

  pub backup_relied : {present : ℕ → Bool} → present k.backup ≡ true → ReliedOn present k k.backup
  backup_relied y = record { is_present = y; role = inr (inl same.two) }

  of_pair : {present : ℕ → Bool} {i : ℕ} → ReliedOn present k i → (i ≡ k.primary) ⊎ (i ≡ k.backup)
  of_pair r = elim r.role [ inl e ↦ inl (e ∙ sym same.one) | inr t ↦ elim t [ inl e ↦ inr (e ∙ sym same.two) | inr e ↦ inl e.1 ] ]

  -- where the four agree on a block, every copy relied on gives the primary's key
  agreed : (b i : ℕ) → agree k b ≡ true → (i ≡ k.primary) ⊎ (i ≡ k.backup)
      → (key_for (k.memory i) b ≡ key_for (primary_memory k) b) × (key_for (k.disk i) b ≡ key_for (primary_memory k) b)
  agreed b i y (inl e) = (rw e refl, rw e (agree_all k b y).0)
  agreed b i y (inr e) = (rw e (agree_all k b y).1, rw e (agree_all k b y).2)

  -- so what is asked may change by the primary's key where the four agree
  pub copies_agreed : (P Q : ℕ → ℕ → Type 0) {present : ℕ → Bool} → ((b j : ℕ) → (agree k b ≡ true → j ≡ key_for (primary_memory k) b) → P b j → Q b j)
      → Copies P (ReliedOn present k) k.memory k.disk → Copies Q (ReliedOn present k) k.memory k.disk
  copies_agreed P Q f v = record {
    memory = λ i r b. f b _ (λ y. (agreed b i y (of_pair r)).0) (v.memory i r b);
    disk = λ i r b. f b _ (λ y. (agreed b i y (of_pair r)).1) (v.disk i r b);
  }
