-- What stays saved: no event but collect, and a loss or a join at its brick, leaves a log with less saved. And what map asks of the chunk.
use mathlib.Core.Path.{◌≡◌, subst}
use mathlib.Core.List.{List}
use mathlib.Core.Bool.{Bool, true}
use mathlib.Core.Logic.{inl, inr}
use Prim.Native.Nat.{ℕ, ◌<◌}
use Rattle.lists.specs.Columns.{upd}
use Rattle.lists.proofs.Tests.{by_eq, either, or_l, some_at}
use Rattle.lists.proofs.Columns.{upd_all, unflag, still_flagged}
use Rattle.rules.specs.Limits.{buckets}
use Rattle.rules.specs.Entries.{key_for}
use Rattle.rules.specs.Chunks.{Chunk, saved_in, save_all, save_key, only_saved, only_named}
use Rattle.rules.specs.Event.{Event}
use Rattle.rules.specs.State.{State, Bricks, set_lists}
use Rattle.rules.specs.Derived.{saved_twice, primary_memory, item}
use Rattle.rules.specs.Writes.{put_effect, nothing_to_copy, copy_effect, savelog_effect}
use Rattle.rules.specs.Membership.{crash_effect}
use Rattle.rules.specs.Upkeep.{mend_effect, pair_names, is_named}
use Rattle.rules.specs.Step.{rule}
use Rattle.rules.proofs.Step.{Yes}
use Rattle.rules.proofs.Derived.{ids_in, saved_elsewhere}
use Rattle.rules.proofs.Entries.{key_for_names}
use Rattle.rules.proofs.Chunks.{saved_append, still_saved, saved_only}
use Rattle.history.proofs.WantInvariant.{Kept, KeptTwice}
use Rattle.history.proofs.Mend.{mend_keeps}

-- ---- a key that is kept, by other bricks or in other logs
module _ {among among' : ℕ → Bool} {log log' : ℕ → List Chunk} (k : ℕ) where
  pub kept_by : ((i : ℕ) → among i ≡ true → saved_in (log i) k ≡ true → (among' i ≡ true) × (saved_in (log' i) k ≡ true)) → Kept among log k → Kept among' log' k
  kept_by h (inl e) = inl e
  kept_by h (inr t) = let u = h t.who t.is_among t.saved in inr (record { who = t.who; is_among = u.0; saved = u.1 })

-- kept twice
pub kept_once : {among : ℕ → Bool} {log : ℕ → List Chunk} (k : ℕ) → KeptTwice among log k → Kept among log k
kept_once {among} k t = kept_by k (λ i y n. ((unflag among 0 i y).0, n)) (t 0)

pub twice_more : {among among' : ℕ → Bool} {log : ℕ → List Chunk} (k : ℕ) → ((i : ℕ) → among i ≡ true → among' i ≡ true)
    → KeptTwice among log k → KeptTwice among' log k
twice_more {among} {among'} k f t x = kept_by k (λ i y n. let u = unflag among x i y in (still_flagged among' x i u.1 (f i u.0), n)) (t x)

-- ---- logs
abbrev pub Saves : (ℕ → List Chunk) → (ℕ → List Chunk) → Type 0
Saves log log' = (k i : ℕ) → saved_in (log i) k ≡ true → saved_in (log' i) k ≡ true

pub kept_on : {among : ℕ → Bool} {log log' : ℕ → List Chunk} → Saves log log' → (k : ℕ) → Kept among log k → Kept among log' k
kept_on f k = kept_by k (λ i y n. (y, f k i n))

-- one log changed
log_saves : (log : ℕ → List Chunk) (x : ℕ) (l : List Chunk) (k : ℕ) → (saved_in (log x) k ≡ true → saved_in l k ≡ true)
    → (i : ℕ) → saved_in (log i) k ≡ true → saved_in (upd log x l i) k ≡ true
log_saves log x l k = upd_all (λ j m. saved_in (log j) k ≡ true → saved_in m k ≡ true) log x l (λ _ y. y)

module _ (s : State) where
  pub put_saves : (p i b : ℕ) (d : List ℕ) → Saves s.bricks.log (rule s (Event.put p i b d)).after.bricks.log
  unfolding rule put_effect
  put_saves p i b d k = log_saves _ _ _ k (saved_append _ _ k)

  -- a copy adds to one log or changes nothing
  pub copy_kept : (P : Bricks → Type 0) (k : ℕ) → ((log : ℕ → List Chunk) → Saves s.bricks.log log → P (set_lists s.bricks log s.bricks.buffer))
      → P (rule s (Event.copy k)).after.bricks
  unfolding rule copy_effect
  copy_kept P k f = either P (nothing_to_copy s k) (λ _. f _ (λ j i y. y)) (λ _. f _ (λ j. log_saves _ _ _ j (saved_append _ _ j)))

  pub savelog_saves : (i : ℕ) → Saves s.bricks.log (rule s (Event.savelog i)).after.bricks.log
  unfolding rule savelog_effect save_all
  savelog_saves i k = log_saves _ _ _ k (still_saved _ _ k)

  pub crash_saves : (i : ℕ) → Saves s.bricks.log (rule s (Event.crash i)).after.bricks.log
  unfolding rule crash_effect only_saved
  crash_saves i k = log_saves _ _ _ k (saved_only _ _ k (λ c _ y. y))

  pub mend_saves : (i : ℕ) → Saves s.bricks.log (rule s (Event.mend i)).after.bricks.log
  unfolding rule mend_effect save_key
  mend_saves i k = log_saves _ _ _ k (mend_keeps s (s.ids i) (λ l. saved_in l k ≡ true) (λ l j. still_saved _ l k) (λ l j _ _. saved_append l _ k))

  -- collect leaves what the primaries name
  pub collect_left : (among : ℕ → Bool) (x g : ℕ) → g < buckets s.settings → (b : ℕ) → let k = key_for (primary_memory (s.bucket g)) b in
      Kept among s.bricks.log k → Kept among (upd s.bricks.log x (only_named (is_named s) (s.bricks.log x))) k
  unfolding is_named only_named
  collect_left among x g l b =
      let k = key_for (primary_memory (s.bucket g)) b in
      let named : (k ≡ 0 → ⊥) → pair_names (s.bucket g) k ≡ true = λ n. or_l _ _ (or_l _ _ (or_l _ _ (key_for_names _ b n))) in
      by_eq k 0 (λ _ e _. inl e) (λ _ n.
      let left = saved_only _ (s.bricks.log x) k (λ c e _. rw e (some_at (buckets s.settings) _ g l (named n))) in
      kept_by k (λ i y t. (y, log_saves s.bricks.log x _ k left i t)))

  -- ---- a chunk saved at two members, as map asks
  pub twice_kept : (k : ℕ) → saved_twice s k ≡ true → KeptTwice s.bricks.member s.bricks.log k
  twice_kept k y x =
      let t = saved_elsewhere s k x y in
      inr (record { who = t.0; is_among = still_flagged s.bricks.member x t.0 t.3 (ids_in _ _ _ t.1).2; saved = t.2 })

  pub map_twice : (e : Event) → Yes s e → (p b : ℕ) → e ≡ Event.map p b → KeptTwice s.bricks.member s.bricks.log (item s p b)
  map_twice e y p b q = asked (subst (λ (a : Event). Yes s a) q y)
    where
      asked : Yes s (Event.map p b) → KeptTwice s.bricks.member s.bricks.log (item s p b)
      asked y = unfold rule in twice_kept (item s p b) (search)
