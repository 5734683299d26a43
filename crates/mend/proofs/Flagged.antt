-- The flags of rows and places: one goes up, the others stay; so they tell the chunks apart that a place lacks.
use mathlib.Core.Path.{◌≡◌, refl, sym, ap, ◌∙◌}
use mathlib.Core.List.{List}
use mathlib.Core.Logic.{◌⊎◌, inl, inr}
use mathlib.Core.Bool.{Bool, true, false, not}
use Prim.Native.Nat.{ℕ, ◌+◌, ◌-◌, ◌≤◌, ◌<◌}
use native.Mathlib.Omega.{arith}
use lib.Bits.{bit_and, bit_or}
use lib.Dec.{eqb, ltb}
use lib.ListN.{length, get_or, set, take, length-set, length-take, replicate, length-replicate, get_or-replicate}
use lib.Seq.{get_or-set_same, get_or-set_other, get_or-take}
use borrow.Author.Tests.{lt-ltb, le-ltb, eqb-true}
use Rattle.lists.specs.Tests.{◌and◌, ◌or◌, all_below}
use Rattle.lists.proofs.Tests.{by, by_eq, by_lt, clash, eqb_self, all_at, and_l, and_r, is_no, no_first, yes_first, yes_second, or_l, or_r, or_no, both, no_second}
use Rattle.lists.specs.Runs.{Below}
use Rattle.lists.proofs.Runs.{below_at}
use Rattle.words.specs.Words.{words}
use Rattle.rules.specs.declared.settings.Settings.{Settings}
use Rattle.rules.specs.Chunks.{Chunk, held}
use Rattle.rules.specs.State.{State}
use Rattle.rules.specs.Limits.{max_places}
use Rattle.rules.specs.Derived.{holder}
use Rattle.rules.specs.Sound.{keys_apart}
use Rattle.chunk_log.specs.Log.{chunk_at}
use Rattle.chunk_log.specs.Answers.{FoundAt}
use Rattle.chunk_log.proofs.Rules.{held_at, not_held, apart_at}
use Rattle.layout.specs.Store.{decode}
use Rattle.lent.specs.Places.{Stands}
use Rattle.lent.specs.Stores.{StoreOf}
use Rattle.lent.proofs.Stores.{settings_are, facts}
use Rattle.named.proofs.Names.{or_none}
use Rattle.mend.specs.Keys.{wants, lacks, part_rows, lies_below, in_part, beyond_part}
use Rattle.mend.specs.Acts.{Lacking}
use Rattle.mend.specs.Flags.{bits, is_on, with_on, flag, raised, MeetsAt, Met, Meets}
use Rattle.holders.specs.Members.{LiesAt}
use Rattle.mend.proofs.Mending.{one}

-- ---- bits of a byte, tried one by one
same_bit : Bool → Bool → Bool
same_bit true b = b
same_bit false b = not b

bit_is : (b p q : ℕ) → Bool
bit_is b p q = same_bit (is_on (with_on b p) q) (eqb p q or is_on b q)

all_bits : all_below 256 (λ b. all_below 8 (λ p. ltb (with_on b p) 256 and all_below 8 (λ q. bit_is b p q))) ≡ true
unfolding all_below same_bit bit_is is_on with_on ◌and◌ ◌or◌
all_bits = refl

same_of : (a b : Bool) → same_bit a b ≡ true → a ≡ b
unfolding same_bit
same_of true true e = refl
same_of true false e = sym e
same_of false true e = e
same_of false false e = refl

module _ (b p : ℕ) (small : b < 256) (few : p < 8) where
  tried : (ltb (with_on b p) 256 and all_below 8 (λ q. bit_is b p q)) ≡ true
  tried = all_at 8 _ (all_at 256 _ all_bits b small) p few

  pub on_bit : (q : ℕ) → q < 8 → is_on (with_on b p) q ≡ (eqb p q or is_on b q)
  unfolding bit_is
  on_bit q l = same_of _ _ (all_at 8 _ (and_r _ _ tried) q l)

all_some : all_below 8 (λ p. ltb 0 (get_or bits p 0) and not (is_on 0 p)) ≡ true
unfolding all_below is_on ◌and◌
all_some = refl

module _ (p : ℕ) (few : p < 8) where
  pub bit_off : is_on 0 p ≡ false
  bit_off = by (is_on 0 p) (λ y. absurd (is_no _ (and_r _ _ (all_at 8 _ all_some p few)) y)) (λ n. n)

-- ---- as the code tells the bit and sets it, tried one by one
told : (b p : ℕ) → Bool
told b p = same_bit (eqb (bit_and b (get_or bits p 0)) 0) (not (is_on b p)) and eqb (bit_or b (get_or bits p 0)) (with_on b p)

all_told : all_below 256 (λ b. all_below 8 (λ p. told b p)) ≡ true
unfolding all_below same_bit told is_on with_on ◌and◌
all_told = refl

module _ (flags : List ℕ) (r p : ℕ) (small : get_or flags r 0 < 256) (few : p < 8) where
  right : told (get_or flags r 0) p ≡ true
  right = all_at 8 _ (all_at 256 _ all_told (get_or flags r 0) small) p few

  pub raised_now : (eqb (bit_and (get_or flags r 0) (get_or bits p 0)) 0 ≡ not (flag flags r p)) × (set flags r (bit_or (get_or flags r 0) (get_or bits p 0)) ≡ raised flags r p)
  unfolding told
  raised_now = (same_of _ _ (and_l _ _ right), ap (set flags r) (eqb-true _ _ (and_r _ _ right)))

pub met_by : (c : Settings) (s : State) (id base : ℕ) (met next : ℕ → Bool) (flags : List ℕ) → ((k : ℕ) → met k ≡ next k) → Met c s id base met flags
    → Met c s id base next flags
met_by c s id base met next flags e m = record { long = m.long; says = λ k p r y a l. m.says k p r y a l ∙ e k }

-- ---- a chunk's place and row are its own
found_below : (l : List Chunk) (k r : ℕ) → keys_apart l ≡ true → FoundAt l k r → (row : ℕ) → held (take row l) k ≡ ltb r row
found_below l k r apart a row =
    by_lt r row
    (λ y p. held_at (take row l) k r (omega (arith, a.in_use, length-take row l)) (ap (λ (x : Chunk). x.key) (get_or-take row l r _ p) ∙ a.same) ∙ sym y)
    (λ n p. not_held (take row l) k (λ i q e. other i (omega (arith, q, length-take row l)) (omega (arith, q, length-take row l)) p e) ∙ sym n)
  where
    other : (i : ℕ) → i < row → i < length l → row ≤ r → (chunk_at (take row l) i).key ≡ k → ⊥
    other i w q p e = apart_at l apart i r (omega arith) a.in_use (sym (ap (λ (x : Chunk). x.key) (get_or-take row l i _ w)) ∙ e ∙ sym a.same)

module _ (c : Settings) (bs : List ℕ) (v : StoreOf c bs) where
  abbrev s : State
  s = decode (words bs)

  one_place : (k p q : ℕ) → Stands c s k p → Stands c s k q → p ≡ q
  one_place k p q a b = (facts c bs v).bricks.apart p q (a.here ∙ sym b.here) (rw a.here a.some)

  one_row : (i k r q : ℕ) → FoundAt (s.bricks.log i) k r → FoundAt (s.bricks.log i) k q → r ≡ q
  one_row i k r q a b =
      let apart = apart_at (s.bricks.log i) ((facts c bs v).logs i).apart in
      by_lt r q (λ _ l. absurd (apart r q l b.in_use (a.same ∙ sym b.same)))
      (λ _ l. by_lt q r (λ _ m. absurd (apart q r m a.in_use (b.same ∙ sym a.same))) (λ _ m. omega arith))

  -- and another chunk's are others
  two_keys : (k j p r : ℕ) → LiesAt c s (holder s k) k p r → LiesAt c s (holder s j) j p r → k ≡ j
  two_keys k j p r a b =
      let same : holder s k ≡ holder s j = sym a.stands.here ∙ b.stands.here in
      sym a.found.same ∙ ap (λ (i : ℕ). (chunk_at (s.bricks.log i) r).key) same ∙ b.found.same

  pub log_room : (i : ℕ) → length (s.bricks.log i) ≤ c.chunks
  log_room i = rw (settings_are c bs v) at ((facts c bs v).log_room i)

  low : (k p r : ℕ) → LiesAt c s (holder s k) k p r → p < 8
  low k p r a = omega (arith, a.stands.inside, v.limits.places_to)

  -- where a chunk lies, seen from a part
  module _ (base k p r : ℕ) (a : LiesAt c s (holder s k) k p r) where
    row_is : (row : ℕ) → lies_below s row k ≡ ltb r row
    unfolding lies_below
    row_is row = found_below (s.bricks.log (holder s k)) k r ((facts c bs v).logs (holder s k)).apart a.found row

    lies_earlier : r < base → (in_part s base k ≡ false) × (beyond_part s base k ≡ false)
    unfolding in_part beyond_part
    lies_earlier l = (
      no_first _ _ (ap not (row_is base ∙ lt-ltb r base l)),
      ap not (row_is (base + part_rows) ∙ lt-ltb r (base + part_rows) (omega arith)),
    )

    lies_within : base ≤ r → r < base + part_rows → (in_part s base k ≡ true) × (beyond_part s base k ≡ false)
    unfolding in_part beyond_part
    lies_within l h = (
      both _ _ (ap not (row_is base ∙ le-ltb r base l)) (row_is (base + part_rows) ∙ lt-ltb r (base + part_rows) h),
      ap not (row_is (base + part_rows) ∙ lt-ltb r (base + part_rows) h),
    )

    lies_later : base + part_rows ≤ r → (in_part s base k ≡ false) × (beyond_part s base k ≡ true)
    unfolding in_part beyond_part
    lies_later l = (
      no_second _ _ (row_is (base + part_rows) ∙ le-ltb r (base + part_rows) l),
      ap not (row_is (base + part_rows) ∙ le-ltb r (base + part_rows) l),
    )

  module _ (id base : ℕ) (met : ℕ → Bool) (flags : List ℕ) (m : Met c s id base met flags) (k : ℕ) where
    -- a key whose chunk is not lacking, or lies in another part
    pub met_not : ((p r : ℕ) → lacks s id k ≡ true → LiesAt c s (holder s k) k p (base + r) → r < part_rows → ⊥)
        → Met c s id base (λ j. met j or eqb j k) flags
    met_not n = record {
      long = m.long;
      says = λ j p r y a l. by_eq j k (λ _ e. absurd (n p r (rw (sym e) y) (rw (sym e) a) l))
          (λ q _. m.says j p r y a l ∙ sym (ap (λ b. met j or b) q ∙ or_none (met j)));
    }

    -- one whose chunk is lacking and lies in the part: its flag goes up
    module _ (p r : ℕ) (y : lacks s id k ≡ true) (a : LiesAt c s (holder s k) k p (base + r)) (less : r < part_rows) (bytes : Below 256 flags) where
      in_flags : r < length flags
      in_flags = omega (arith, less, m.long)

      byte_small : get_or flags r 0 < 256
      byte_small = below_at bytes r in_flags

      row_now : (q : ℕ) → q < 8 → flag (raised flags r p) r q ≡ (eqb p q or flag flags r q)
      row_now q l = ap (λ (x : ℕ). is_on x q) (get_or-set_same flags r _ 0 in_flags) ∙ on_bit (get_or flags r 0) p byte_small (low k p (base + r) a) q l

      row_else : (t q : ℕ) → (t ≡ r → ⊥) → flag (raised flags r p) t q ≡ flag flags t q
      row_else t q n = ap (λ (x : ℕ). is_on x q) (get_or-set_other flags r t _ 0 n)

      -- of another chunk
      apart : (j q t : ℕ) → LiesAt c s (holder s j) j q (base + t) → (j ≡ k → ⊥) → flag (raised flags r p) t q ≡ flag flags t q
      apart j q t d n =
          by_eq t r
          (λ _ e. by_eq p q (λ _ h. absurd (n (two_keys j k p (base + r) (rw (h, sym e) d) a)))
          (λ h _. rw e (row_now q (low j q (base + t) d) ∙ or_no _ _ h)))
          (λ _ e. row_else t q e)

      pub met_now : Met c s id base (λ j. met j or eqb j k) (raised flags r p)
      met_now = record {
        long = length-set flags r _ ∙ m.long;
        says = λ j q t z d l. by_eq j k
            (λ h e. mine q t (rw (sym e) d) ∙ sym (or_r _ _ h))
            (λ h e. apart j q t d e ∙ m.says j q t z d l ∙ sym (ap (λ b. met j or b) h ∙ or_none (met j)));
      }
        where
          mine : (q t : ℕ) → LiesAt c s (holder s k) k q (base + t) → flag (raised flags r p) t q ≡ true
          mine q t d =
              let ep : q ≡ p = one_place (holder s k) q p d.stands a.stands in
              let er : t ≡ r = omega (arith, one_row (holder s k) k (base + t) (base + r) d.found a.found) in
              rw (ep, er) (row_now p (low k p (base + r) a) ∙ or_l _ _ (eqb_self p))

  -- no flag is up at first
  pub met_none : (id base : ℕ) (met : ℕ → Bool) → ((k : ℕ) → met k ≡ false) → Met c s id base met (replicate part_rows 0)
  met_none id base met n = record {
    long = length-replicate {A = ℕ} part_rows 0;
    says = λ k p r y a l. ap (λ (x : ℕ). is_on x p) (get_or-replicate part_rows r 0 0 l) ∙ bit_off p (low k p (base + r) a) ∙ sym (n k);
  }

  -- ---- what a key does to the flags
  meets_not : (id base k : ℕ) (flags : List ℕ) → lacks s id k ≡ false → Meets c s id base k flags flags 0 0
  meets_not id base k flags n = record {
    new = λ met m. sym (ap one (no_first _ _ (no_first _ _ n)));
    far = sym (ap one (no_first _ _ n));
    met = λ met m. met_not id base met flags m k (λ p r y a l. clash n y);
  }

  pub meets_none : (id base k : ℕ) (flags : List ℕ) → wants s id k ≡ false → Meets c s id base k flags flags 0 0
  meets_none id base k flags n = meets_not id base k flags (unfold lacks in no_first _ _ n)

  pub meets_held : (id base k : ℕ) (flags : List ℕ) → held (s.bricks.log id) k ≡ true → Meets c s id base k flags flags 0 0
  meets_held id base k flags y = meets_not id base k flags (unfold lacks in no_second _ _ (ap not y))

  -- a lacking chunk
  module _ (id base k p r : ℕ) (o : Lacking c s id k p r) where
    pub place_flagged : p < max_places
    place_flagged = low k p r o.from

    lacking : lacks s id k ≡ true
    lacking = unfold lacks in both _ _ o.wanted (ap not o.missing)

    module _ (flags after : List ℕ) (inside beyond : ℕ) (h : MeetsAt base r p flags after inside beyond) where
      -- out of the part
      meets_else : in_part s base k ≡ false → (r < base) ⊎ (base + part_rows ≤ r) → inside ≡ 0 → beyond ≡ one (beyond_part s base k) → after ≡ flags
          → Meets c s id base k flags after inside beyond
      meets_else n out e f same = record {
        new = λ met m. e ∙ sym (ap one (no_second _ _ n));
        far = f ∙ sym (ap one (yes_first _ _ lacking));
        met = λ met m. rw same (met_not id base met flags m k (λ q t y d l. elsewhere t d.found l));
      }
        where
          elsewhere : (t : ℕ) → FoundAt (s.bricks.log (holder s k)) k (base + t) → t < part_rows → ⊥
          elsewhere t d l =
              let e = one_row (holder s k) k (base + t) r d o.from.found in elim out [ inl x ↦ omega arith | inr x ↦ omega arith ]

      meets_here : base ≤ r → r < base + part_rows → Below 256 flags → Meets c s id base k flags after inside beyond
      meets_here l g b = record {
        new = λ met m. told.0 ∙ ap one (ap not (m.says k p (r - base) lacking here (omega arith)) ∙ sym (yes_second _ _ at.0 ∙ yes_first _ _ lacking));
        far = told.1 ∙ sym (ap one (no_second _ _ at.1));
        met = λ met m. rw told.2 (met_now id base met flags m k p (r - base) lacking here (omega arith) b);
      }
        where
          told : (inside ≡ one (not (flag flags (r - base) p))) × (beyond ≡ 0) × (after ≡ raised flags (r - base) p)
          told = h.within l g

          at : (in_part s base k ≡ true) × (beyond_part s base k ≡ false)
          at = lies_within base k p r o.from l g

          here : LiesAt c s (holder s k) k p (base + (r - base))
          here = let e : base + (r - base) ≡ r = omega arith in rw e o.from

      pub meets_it : Below 256 flags → Meets c s id base k flags after inside beyond
      meets_it b =
          by_lt r base
          (λ _ l. let t = h.earlier l in let w = lies_earlier base k p r o.from l in
          meets_else w.0 (inl l) t.0 (t.1 ∙ sym (ap one w.1)) t.2)
          (λ _ l. by_lt r (base + part_rows) (λ _ g. meets_here l g b)
          (λ _ g. let t = h.later g in let w = lies_later base k p r o.from g in
          meets_else w.0 (inr g) t.0 (t.1 ∙ sym (ap one w.1)) t.2))
