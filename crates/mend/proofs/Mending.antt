-- A log while it is mended, key by key: what it holds, and how long it is.
use mathlib.Core.Path.{◌≡◌, refl, sym, ap, ◌∙◌}
use mathlib.Core.List.{List, [], ◌∷◌}
use mathlib.Core.Bool.{Bool, true, false, not, cond}
use Prim.Native.Nat.{ℕ, zero, suc, ◌+◌, ◌≤◌, ◌<◌}
use native.Mathlib.Nat.{le_refl}
use native.Mathlib.Omega.{arith}
use lib.Dec.{eqb}
use lib.ListN.{length, take, length-append}
use lib.Seq.{take-length}
use Rattle.lists.specs.Tests.{◌and◌, ◌or◌, any, any_below, count_below}
use Rattle.lists.proofs.Tests.{by, by_eq, or_l, no_first, no_second, yes_first}
use Rattle.rules.specs.Entries.{Entry, names}
use Rattle.rules.specs.Chunks.{Chunk, new_chunk, held, bytes_in, append, save_key}
use Rattle.rules.specs.State.{State}
use Rattle.rules.specs.Derived.{holder}
use Rattle.rules.specs.Upkeep.{mend_key, mend_keys, mend_buckets}
use Rattle.rules.proofs.Chunks.{held_append, held_save, length_save}
use Rattle.entries.specs.Entries.{entry_at}
use Rattle.named.specs.Tables.{named}
use Rattle.named.proofs.Names.{or_none, or_both, names_more}
use Rattle.mend.specs.Keys.{key_at, mended_to, before, wants, lacks, adds, added_in, added, counted}

-- ---- a key that becomes saved
saved_held : (l : List Chunk) (k q : ℕ) → held (save_key l k) q ≡ held l q
unfolding save_key
saved_held l k q = held_save (eqb k) l q

saved_length : (l : List Chunk) (k : ℕ) → length (save_key l k) ≡ length l
unfolding save_key
saved_length l k = length_save (eqb k) l

-- ---- one key
module _ (s : State) (id : ℕ) (l : List Chunk) (k : ℕ) where
  abbrev new : Chunk
  new = new_chunk k true (bytes_in (s.bricks.log (holder s k)) k)

  pub key_none : wants s id k ≡ false → mend_key s id l k ≡ l
  unfolding mend_key wants
  key_none n = rw n

  pub key_saved : wants s id k ≡ true → held l k ≡ true → mend_key s id l k ≡ save_key l k
  unfolding mend_key wants
  key_saved w h = rw (w, h)

  pub key_added : wants s id k ≡ true → held l k ≡ false → mend_key s id l k ≡ append l new
  unfolding mend_key wants
  key_added w h = rw (w, h)

  already : held l k ≡ true → (q : ℕ) → (held l q or eqb q k) ≡ held l q
  already h q = by_eq q k (λ e z. or_l _ _ (rw z h) ∙ sym (rw z h)) (λ e _. ap (λ b. held l q or b) e ∙ or_none (held l q))

  pub key_held : (q : ℕ) → held (mend_key s id l k) q ≡ (held l q or (wants s id k and eqb q k))
  key_held q =
      by (wants s id k)
      (λ w. by (held l k)
      (λ h. ap (λ (m : List Chunk). held m q) (key_saved w h) ∙ saved_held l k q ∙ sym (ap (λ b. held l q or b) (yes_first _ _ w) ∙ already h q))
      (λ h. ap (λ (m : List Chunk). held m q) (key_added w h) ∙ held_append l new q ∙ ap (λ b. held l q or b) (sym (yes_first _ _ w))))
      (λ w. ap (λ (m : List Chunk). held m q) (key_none w) ∙ sym (ap (λ b. held l q or b) (no_first _ _ w) ∙ or_none (held l q)))

  abbrev more : Bool
  more = wants s id k and not (held l k)

  pub key_length : length (mend_key s id l k) ≡ cond more 1 0 + length l
  key_length =
      by (wants s id k)
      (λ w. by (held l k)
      (λ h. let n : more ≡ false = yes_first _ _ w ∙ ap not h in
      let e = ap length (key_saved w h) ∙ saved_length l k in rw n (omega arith))
      (λ h. let y : more ≡ true = yes_first _ _ w ∙ ap not h in
      let e = ap length (key_added w h) ∙ length-append l (new ∷ []) in rw y (omega arith)))
      (λ w. let n : more ≡ false = no_first _ _ w in let e = ap length (key_none w) in rw n (omega arith))

-- ---- a log on the way: it holds what it held, and of the keys named so far those that the place gets
pub record Sofar (s : State) (id : ℕ) (l : List Chunk) (seen : ℕ → Bool) : Type 0 where
  pub holds : (q : ℕ) → held l q ≡ (held (s.bricks.log id) q or (wants s id q and seen q))

module _ (s : State) (id : ℕ) where
  pub sofar_start : (seen : ℕ → Bool) → ((q : ℕ) → seen q ≡ false) → Sofar s id (s.bricks.log id) seen
  sofar_start seen e = record { holds = λ q. sym (ap (λ b. held (s.bricks.log id) q or b) (no_second _ _ (e q)) ∙ or_none _) }

  pub sofar_by : (l : List Chunk) (seen next : ℕ → Bool) → ((q : ℕ) → seen q ≡ next q) → Sofar s id l seen → Sofar s id l next
  sofar_by l seen next e o = record { holds = λ q. o.holds q ∙ ap (λ b. held (s.bricks.log id) q or (wants s id q and b)) (e q) }

  module _ (l : List Chunk) (seen : ℕ → Bool) (o : Sofar s id l seen) (k : ℕ) where
    pub sofar_turn : Sofar s id (mend_key s id l k) (λ q. seen q or eqb q k)
    sofar_turn = record { holds = λ q. key_held s id l k q ∙ ap (λ b. b or (wants s id k and eqb q k)) (o.holds q) ∙ joined q }
      where
        mix : (a w x y : Bool) → ((a or (w and x)) or (w and y)) ≡ (a or (w and (x or y)))
        mix true true true true = unfold ◌or◌ ◌and◌ in refl
        mix true true true false = unfold ◌or◌ ◌and◌ in refl
        mix true true false true = unfold ◌or◌ ◌and◌ in refl
        mix true true false false = unfold ◌or◌ ◌and◌ in refl
        mix true false x y = unfold ◌or◌ ◌and◌ in refl
        mix false true true y = unfold ◌or◌ ◌and◌ in refl
        mix false true false y = unfold ◌or◌ ◌and◌ in refl
        mix false false x y = unfold ◌or◌ ◌and◌ in refl

        same : (q : ℕ) → (wants s id k and eqb q k) ≡ (wants s id q and eqb q k)
        same q = by_eq q k (λ e z. ap (λ (n : ℕ). wants s id n and eqb q k) (sym z)) (λ e _. no_second _ _ e ∙ sym (no_second _ _ e))

        joined : (q : ℕ) → ((held (s.bricks.log id) q or (wants s id q and seen q)) or (wants s id k and eqb q k))
            ≡ (held (s.bricks.log id) q or (wants s id q and (seen q or eqb q k)))
        joined q =
            ap (λ b. (held (s.bricks.log id) q or (wants s id q and seen q)) or b) (same q)
            ∙ mix (held (s.bricks.log id) q) (wants s id q) (seen q) (eqb q k)

    -- a chunk more where the key is lacking and was not named yet
    pub sofar_more : (wants s id k and not (held l k)) ≡ (lacks s id k and not (seen k))
    unfolding lacks
    sofar_more = ap (λ b. wants s id k and not b) (o.holds k) ∙ mix (held (s.bricks.log id) k) (wants s id k) (seen k)
      where
        mix : (a w x : Bool) → (w and not (a or (w and x))) ≡ ((w and not a) and not x)
        mix true true x = unfold ◌or◌ ◌and◌ in refl
        mix true false x = unfold ◌or◌ ◌and◌ in refl
        mix false true true = unfold ◌or◌ ◌and◌ in refl
        mix false true false = unfold ◌or◌ ◌and◌ in refl
        mix false false x = unfold ◌or◌ ◌and◌ in refl

-- ---- entry by entry
module _ (s : State) (id : ℕ) where
  pub keys_more : (l : List Chunk) (es : List Entry) (i : ℕ) → i < length es
      → mend_keys s id l (take (suc i) es) ≡ mend_key s id (mend_keys s id l (take i es)) (entry_at es i).key
  unfolding mend_keys
  keys_more l [] i p = absurd (omega arith)
  keys_more l (e ∷ es) zero p = refl
  keys_more l (e ∷ es) (suc i) p = keys_more (mend_key s id l e.key) es i (omega arith)

  pub bucket_more : (g : ℕ) → mend_buckets s id (suc g) ≡ mend_keys s id (mend_buckets s id g) (named s g)
  unfolding mend_buckets named mend_keys
  bucket_more g = by (s.bucket g).ready (λ q. rw q) (λ q. rw q)

-- ---- what is named before an entry
module _ (s : State) where
  pub before_start : (k : ℕ) → before s 0 0 k ≡ false
  unfolding before names any any_below ◌or◌
  before_start k = refl

  pub before_more : (g i k : ℕ) → i < length (named s g) → before s g (suc i) k ≡ (before s g i k or eqb k (key_at s g i))
  unfolding before
  before_more g i k p = rw (names_more (named s g) i k p) (or_both _ (names (take i (named s g)) k) (eqb k (key_at s g i)))

  pub before_bucket : (g k : ℕ) → before s (suc g) 0 k ≡ before s g (length (named s g)) k
  unfolding before names any any_below
  before_bucket g k = rw take-length (or_none _)

abbrev pub one : Bool → ℕ
one b = cond b 1 0

-- more indices, a higher count
count_grows : (test : ℕ → Bool) (i n : ℕ) → i ≤ n → count_below i test ≤ count_below n test
unfolding count_below
count_grows test i zero p = let e : i ≡ 0 = omega arith in rw e (le_refl 0)
count_grows test i (suc n) p =
    by_eq i (suc n) (λ _ e. rw e (le_refl (count_below (suc n) test))) (λ _ e. let r = count_grows test i n (omega arith) in omega arith)

-- ---- the log after some entries
module _ (s : State) (id : ℕ) where
  pub mended_start : (g : ℕ) → mended_to s id g 0 ≡ mend_buckets s id g
  unfolding mend_keys
  mended_start g = refl

  pub mended_end : (g : ℕ) → mended_to s id g (length (named s g)) ≡ mend_buckets s id (suc g)
  mended_end g = ap (mend_keys s id (mend_buckets s id g)) (take-length (named s g)) ∙ sym (bucket_more s id g)

  pub mended_more : (g i : ℕ) → i < length (named s g) → mended_to s id g (suc i) ≡ mend_key s id (mended_to s id g i) (key_at s g i)
  mended_more g i p = keys_more s id (mend_buckets s id g) (named s g) i p

  within : (g i : ℕ) → i ≤ length (named s g) → Sofar s id (mend_buckets s id g) (before s g 0) → Sofar s id (mended_to s id g i) (before s g i)
  within g zero p o = rw (mended_start g) o
  within g (suc i) p o =
      rw (mended_more g i (omega arith))
      (sofar_by s id _ _ _ (λ q. sym (before_more s g i q (omega arith)))
      (sofar_turn s id (mended_to s id g i) (before s g i) (within g i (omega arith) o) (key_at s g i)))

  at_bucket : (g : ℕ) → Sofar s id (mend_buckets s id g) (before s g 0)
  at_bucket zero = unfold mend_buckets in sofar_start s id (before s 0 0) (before_start s)
  at_bucket (suc g) =
      sofar_by s id _ _ _ (λ q. sym (before_bucket s g q)) (rw (mended_end g) at (within g (length (named s g)) (le_refl _) (at_bucket g)))

  pub sofar_at : (g i : ℕ) → i ≤ length (named s g) → Sofar s id (mended_to s id g i) (before s g i)
  sofar_at g i p = within g i p (at_bucket g)

  -- ---- its length
  adds_is : (g i : ℕ) → adds s id g i ≡ (lacks s id (key_at s g i) and not (before s g i (key_at s g i)))
  unfolding adds
  adds_is g i = refl

  pub mended_length : (g i : ℕ) → i ≤ length (named s g) → length (mended_to s id g i) ≡ added_in s id g i + length (mend_buckets s id g)
  mended_length g zero p = unfold count_below in (ap length (mended_start g) ∙ omega arith)
  mended_length g (suc i) p =
      let k : ℕ = key_at s g i in
      let e = ap length (mended_more g i (omega arith)) ∙ key_length s id (mended_to s id g i) k in
      let m = sofar_more s id (mended_to s id g i) (before s g i) (sofar_at g i (omega arith)) k in
      let r = mended_length g i (omega arith) in
      let c : added_in s id g (suc i) ≡ cond (adds s id g i) 1 0 + added_in s id g i = unfold count_below in refl in
      let a : one (wants s id k and not (held (mended_to s id g i) k)) ≡ one (adds s id g i) = ap one (m ∙ sym (adds_is g i)) in
      omega arith

  pub buckets_length : (n : ℕ) → length (mend_buckets s id n) ≡ added s id n + length (s.bricks.log id)
  buckets_length zero = unfold mend_buckets counted in omega arith
  buckets_length (suc g) =
      let e = ap length (sym (mended_end g)) ∙ mended_length g (length (named s g)) (le_refl _) in
      let r = buckets_length g in
      let a : added s id (suc g) ≡ added_in s id g (length (named s g)) + added s id g = unfold counted in refl in
      omega arith

  -- it only grows
  pub mended_grows : (g i n : ℕ) → i ≤ length (named s g) → g < n → length (mended_to s id g i) ≤ length (mend_buckets s id n)
  mended_grows g i zero p q = absurd (omega arith)
  mended_grows g i (suc n) p q =
      by_eq g n
      (λ _ e. let x = mended_length g i p in
      let y = ap length (sym (mended_end g)) ∙ mended_length g (length (named s g)) (le_refl _) in
      let z = count_grows (adds s id g) i (length (named s g)) p in
      rw (← e) (omega arith))
      (λ _ e. let r = mended_grows g i n p (omega arith) in
      let x = ap length (sym (mended_end n)) ∙ mended_length n (length (named s n)) (le_refl _) in
      omega arith)
