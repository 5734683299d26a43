-- A batch leaves what its calls leave one by one.
use mathlib.Core.Path.{◌≡◌, refl, sym, ap, subst, ◌∙◌}
use mathlib.Core.List.{List, [], ◌∷◌, ◌++◌, append_assoc, append-nil, map}
use mathlib.Core.Bool.{Bool, true, false}
use Prim.Native.Nat.{ℕ, zero, suc, ◌+◌, ◌*◌, ◌-◌, ◌≤◌, ◌<◌}
use native.Mathlib.Nat.{add-zero, zero-add}
use native.Mathlib.Omega.{arith}
use lib.Dec.{ltb, eqb}
use lib.ListN.{length, take, get_or, set, length-set}
use lib.Seq.{take_all, take-suc-set, get_or_at, get_or-append-add, length-take-le}
use borrow.Author.Tests.{eqb-true, eq-eqb, lt-ltb}
use Rattle.lists.specs.Tests.{◌and◌, any_below}
use Rattle.lists.specs.Runs.{run, enc_all, Below}
use Rattle.lists.proofs.Lists.{same_cons}
use Rattle.lists.proofs.Tests.{by, clash, and_l, and_r, both, yes_first, some_at}
use Rattle.words.specs.Words.{words}
use Rattle.rules.specs.declared.settings.Settings.{Settings}
use Rattle.rules.specs.Event.{Event}
use Rattle.rules.specs.State.{State}
use Rattle.rules.specs.Call.{get_kind}
use Rattle.layout.specs.Layout.{settings_of}
use Rattle.layout.specs.Store.{decode_bytes, sound_bytes}
use Rattle.lent.specs.Stores.{StoreOf}
use Rattle.lent.proofs.Stores as stores
use Rattle.history.specs.Claim.{Answered}
use Rattle.calls.specs.Outcome.{Outcome, outcome, outcomes, store_after}
use Rattle.calls.specs.Claim.{answered_calls}
use Rattle.calls.proofs.Performed.{store_sound}
use Rattle.reads.proofs.Outcomes.{size_is}
use Rattle.calls.proofs.Calls.{kept_of}
use Rattle.batch.specs.Batch.{block_at, with_block, Batch, Lent, begins, kind_of, call_at, turn, turns, count, is_batch, Ran, batch_outcome}
use Rattle.batch.specs.Claim.{code_and_key, calls_from, calls_of, blocks_from, fills_into, OneByOne, BatchTheorem, seen, answered_from}
use Rattle.batch.proofs.Blocks.{block_with, block_same, apart, with_length, with_apart, with_same}
use Rattle.batch.proofs.Turns.{turn_keeps, ran_unsound, ran_none, ran_all}
use Rattle.step.proofs.Areas.{area_left, area_length}

same_answered : (e : Event) (found : State) {code code' key key' : ℕ} {bytes bytes' : List ℕ} → code ≡ code' → key ≡ key' → bytes ≡ bytes'
    → ◌≡◌ {A = Answered} (record { event = e; code = code; said = record { key = key; bytes = bytes }; found = found })
    (record { event = e; code = code'; said = record { key = key'; bytes = bytes' }; found = found })
same_answered e found p q s = rw (p, q, s) refl

none_at : (n : ℕ) (test : ℕ → Bool) (k : ℕ) → k < n → any_below n test ≡ false → test k ≡ false
none_at n test k l f = by (test k) (λ y. clash f (some_at n test k l y)) (λ z. z)

module _ (c : Settings) (batch : Batch) where
  -- ---- k events from event i on
  from : ℕ → ℕ → Lent → Lent
  from i zero l = l
  from i (suc k) l = from (suc i) k (turn c.size batch i l)

  from_turns : (i k : ℕ) (l : Lent) → from i k (turns c.size batch i l) ≡ turns c.size batch (i + k) l
  unfolding from turns
  from_turns i zero l = ap (λ (n : ℕ). turns c.size batch n l) (sym (add-zero i))
  from_turns i (suc k) l = let e : suc i + k ≡ i + suc k = omega arith in from_turns (suc i) k l ∙ ap (λ (n : ℕ). turns c.size batch n l) e

  abbrev called : ℕ → Lent → Outcome
  called i l = outcome l.store (call_at c.size batch i l.area)

  -- a sound store of the settings, and room for as many answers
  record Ready (i k : ℕ) (l : Lent) : Type 0 where
    held : StoreOf c l.store
    bytes : Below 256 l.store
    room : length l.answers ≡ 2 * (i + k)

  module _ (i k : ℕ) (l : Lent) (r : Ready i (suc k) l) where
    next : Ready (suc i) k (turn c.size batch i l)
    unfolding turn
    next =
        let t = turn_keeps c.size batch i l (turn c.size batch i l) refl r.bytes in
        record { held = kept_of r.held t; bytes = t.bytes; room = simp length-set (omega (arith, r.room)) }

    -- its block of the area is that of the outcome
    shown : block_at c.size (begins batch i) (turn c.size batch i l).area ≡ (called i l).area
    unfolding turn
    shown = block_with c.size (begins batch i) l.area (called i l).area (area_length c l.store r.held (call_at c.size batch i l.area))

    -- its words of the answers come after those of the events before
    said : take (2 * suc i) (turn c.size batch i l).answers ≡ take (2 * i) l.answers ++ code_and_key (called i l)
    unfolding turn
    said =
        let o = called i l in
        let n : 2 * suc i ≡ suc (2 * i + 1) = omega arith in
        let m : 2 * i + 1 ≡ suc (2 * i) = omega arith in
        let front : List ℕ = set l.answers (2 * i) o.code in
        let long : 2 * i + 1 < length front = simp length-set (omega (arith, r.room)) in
        let short : 2 * i < length l.answers = omega (arith, r.room) in
        ap (λ (x : ℕ). take x (set front (2 * i + 1) o.key)) n ∙ take-suc-set front (2 * i + 1) o.key long
        ∙ ap (λ (x : ℕ). take x front ++ (o.key ∷ [])) m ∙ ap (λ (x : List ℕ). x ++ (o.key ∷ [])) (take-suc-set l.answers (2 * i) o.code short)
        ∙ append_assoc (take (2 * i) l.answers) (o.code ∷ []) (o.key ∷ [])

  -- ---- the store, the answers, the blocks
  from_store : (i k : ℕ) (l : Lent) → (from i k l).store ≡ store_after l.store (calls_from c.size batch i k l)
  unfolding from store_after calls_from turn
  from_store i zero l = refl
  from_store i (suc k) l = from_store (suc i) k (turn c.size batch i l)

  abbrev all_outcomes : ℕ → ℕ → Lent → List Outcome
  all_outcomes i k l = outcomes l.store (calls_from c.size batch i k l)

  from_answers : (i k : ℕ) (l : Lent) → Ready i k l → (from i k l).answers ≡ take (2 * i) l.answers ++ enc_all code_and_key (all_outcomes i k l)
  unfolding from outcomes calls_from enc_all turn
  from_answers i zero l r = sym (append-nil _ ∙ take_all (2 * i) l.answers (omega (arith, r.room)))
  from_answers i (suc k) l r =
      let rest : List ℕ = enc_all code_and_key (all_outcomes (suc i) k (turn c.size batch i l)) in
      from_answers (suc i) k (turn c.size batch i l) (next i k l r) ∙ ap (λ (x : List ℕ). x ++ rest) (said i k l r)
      ∙ append_assoc (take (2 * i) l.answers) (code_and_key (called i l)) rest

  from_blocks : (i k : ℕ) (l : Lent) → Ready i k l → blocks_from c.size batch i k l ≡ map (λ (o : Outcome). o.area) (all_outcomes i k l)
  unfolding outcomes calls_from blocks_from turn
  from_blocks i zero l r = refl
  from_blocks i (suc k) l r = same_cons (shown i k l r) (from_blocks (suc i) k (turn c.size batch i l) (next i k l r))

  -- ---- what the answers have in the end for an event
  module _ (i k : ℕ) (l : Lent) (r : Ready i (suc k) l) (left : Lent) (e : left ≡ from i (suc k) l) where
    front_length : length (take (2 * i) l.answers) ≡ 2 * i
    front_length = length-take-le (2 * i) l.answers (omega (arith, r.room))

    rest : List ℕ
    rest = enc_all code_and_key (outcomes (called i l).store (calls_from c.size batch (suc i) k (turn c.size batch i l)))

    split : left.answers ≡ take (2 * i) l.answers ++ ((called i l).code ∷ ((called i l).key ∷ rest))
    unfolding rest outcomes calls_from enc_all
    split = ap (λ (m : Lent). m.answers) e ∙ from_answers i (suc k) l r

    code_at : get_or left.answers (2 * i) 0 ≡ (called i l).code
    code_at =
        ap (λ (x : List ℕ). get_or x (2 * i) 0) split
        ∙ get_or_at (take (2 * i) l.answers) (called i l).code ((called i l).key ∷ rest) 0 (2 * i) front_length

    key_at : get_or left.answers (2 * i + 1) 0 ≡ (called i l).key
    key_at =
        ap (λ (x : List ℕ). get_or x (2 * i + 1) 0) split
        ∙ ap (λ (n : ℕ). get_or (take (2 * i) l.answers ++ ((called i l).code ∷ ((called i l).key ∷ rest))) (n + 1) 0) (sym front_length)
        ∙ get_or-append-add (take (2 * i) l.answers) ((called i l).code ∷ ((called i l).key ∷ rest)) 1 0

    -- an event that fills none of the n bytes from b on
    turn_kept : (b n : ℕ) → fills_into c.size batch left b n i ≡ false → run b n (turn c.size batch i l).area ≡ run b n l.area
    unfolding turn
    turn_kept b n f =
        let call = call_at c.size batch i l.area in
        by (eqb (kind_of batch i) get_kind and eqb (called i l).code 0)
        (λ y. let got = both _ _ (and_l _ _ y) (eq-eqb _ _ (code_at ∙ eqb-true _ _ (and_r _ _ y))) in
        with_apart c.size (begins batch i) l.area (called i l).area (area_length c l.store r.held call) b n
        (apart (begins batch i) c.size b n (sym (yes_first _ _ got) ∙ f)))
        (λ m. ap (λ (x : List ℕ). run b n (with_block c.size (begins batch i) x l.area)) (area_left c l.store r.held call m)
        ∙ ap (run b n) (sym (with_same c.size (begins batch i) l.area)))

  -- ---- the area: its length, and bytes that no accepted get fills
  from_length : (i k : ℕ) (l : Lent) → Ready i k l → length (from i k l).area ≡ length l.area
  unfolding from turn
  from_length i zero l r = refl
  from_length i (suc k) l r =
      from_length (suc i) k (turn c.size batch i l) (next i k l r)
      ∙ with_length c.size (begins batch i) l.area (called i l).area (area_length c l.store r.held (call_at c.size batch i l.area))

  from_kept : (b n i k : ℕ) (l : Lent) → Ready i k l → (left : Lent) → left ≡ from i k l
      → ((j : ℕ) → i ≤ j → j < i + k → fills_into c.size batch left b n j ≡ false) → run b n (from i k l).area ≡ run b n l.area
  unfolding from
  from_kept b n i zero l r left e f = refl
  from_kept b n i (suc k) l r left e f =
      from_kept b n (suc i) k (turn c.size batch i l) (next i k l r) left e (λ j h g. f j (omega arith) (omega arith))
      ∙ turn_kept i k l r left e b n (f i (omega arith) (omega arith))

  -- ---- what was answered
  seen_is : (i k : ℕ) (l : Lent) → Ready i (suc k) l → (left : Lent) → left ≡ from i (suc k) l → i + suc k ≡ count batch
      → seen c.size batch left i (turn c.size batch i l) ≡ (called i l).area
  unfolding from
  seen_is i k l r left e h =
      let at = begins batch i in
      let next_l = turn c.size batch i l in
      by (any_below (count batch) (λ j. ltb i j and fills_into c.size batch left at c.size j)) (λ y. rw y (shown i k l r))
      (λ n. rw n
      (block_same c.size at left.area next_l.area (ap (λ (m : Lent). length m.area) e ∙ from_length (suc i) k next_l (next i k l r))
      (ap (λ (m : Lent). run at c.size m.area) e ∙ from_kept at c.size (suc i) k next_l (next i k l r) left e
      (λ j p q. sym (yes_first _ _ (lt-ltb i j p)) ∙ none_at (count batch) _ j (omega arith) n))
      ∙ shown i k l r))

  from_answered : (i k : ℕ) (l : Lent) → Ready i k l → (left : Lent) → left ≡ from i k l → i + k ≡ count batch
      → answered_from c.size batch left i k l ≡ answered_calls c.size l.store (calls_from c.size batch i k l)
  unfolding from answered_from answered_calls calls_from
  from_answered i zero l r left e h = refl
  from_answered i (suc k) l r left e h =
      same_cons (same_answered _ _ (code_at i k l r left e) (key_at i k l r left e) (seen_is i k l r left e h))
      (from_answered (suc i) k (turn c.size batch i l) (next i k l r) left e (omega arith) ∙ unfold turn in refl)

  -- ---- from the first event on
  ready_turns : (n i : ℕ) (l : Lent) → Ready 0 n l → i ≤ n → Ready i (n - i) (turns c.size batch i l)
  unfolding turns
  ready_turns n zero l r h = subst (λ (k : ℕ). Ready 0 k l) (let e : n ≡ n - 0 = omega arith in e) r
  ready_turns n (suc i) l r h =
      let e : n - i ≡ suc (n - suc i) = omega arith in
      next i (n - suc i) (turns c.size batch i l) (subst (λ (k : ℕ). Ready i k (turns c.size batch i l)) e (ready_turns n i l r (omega arith)))

  module _ (l : Lent) (v : StoreOf c l.store) (b256 : Below 256 l.store) (y : is_batch batch l ≡ true) where
    ready : Ready 0 (count batch) l
    unfolding is_batch
    ready = record { held = v; bytes = b256; room = let e = eqb-true (length l.answers) (2 * count batch) (and_r _ _ y) in omega (arith, e) }

    all_from : turns c.size batch (count batch) l ≡ from 0 (count batch) l
    unfolding turns
    all_from = sym (from_turns 0 (count batch) l ∙ ap (λ (n : ℕ). turns c.size batch n l) (zero-add (count batch)))

    pub held_after : StoreOf c (turns c.size batch (count batch) l).store
    held_after = (ready_turns (count batch) (count batch) l ready (omega arith)).held

    pub bytes_after : Below 256 (turns c.size batch (count batch) l).store
    bytes_after = (ready_turns (count batch) (count batch) l ready (omega arith)).bytes

    pub one_by_one : OneByOne c.size batch l (turns c.size batch (count batch) l)
    one_by_one = record {
      store = ap (λ (m : Lent). m.store) all_from ∙ from_store 0 (count batch) l;
      answers = ap (λ (m : Lent). m.answers) all_from ∙ from_answers 0 (count batch) l ready;
      blocks = from_blocks 0 (count batch) l ready;
      kept = λ i b n h f. let e : i + (count batch - i) ≡ count batch = omega arith in
          let q : from i (count batch - i) (turns c.size batch i l) ≡ turns c.size batch (count batch) l =
          from_turns i (count batch - i) l ∙ ap (λ (m : ℕ). turns c.size batch m l) e in
          ap (λ (m : Lent). run b n m.area) (sym q)
          ∙ from_kept b n i (count batch - i) (turns c.size batch i l) (ready_turns (count batch) i l ready h) (turns c.size batch (count batch) l)
          (sym q) (λ j g p. f j g (omega arith));
    }

    pub all_answered : answered_from c.size batch (turns c.size batch (count batch) l) 0 (count batch) l ≡ answered_calls c.size l.store
        (calls_of c.size batch l)
    all_answered = from_answered 0 (count batch) l ready _ all_from (zero-add (count batch))

-- ---- the outcome of a batch on a sound store
module _ (batch : Batch) (l : Lent) where
  -- code 0 says that both questions were answered yes
  zero_sound : (batch_outcome batch l).code ≡ 0 → sound_bytes l.store ≡ true
  zero_sound z =
      by (sound_bytes l.store) (λ y. y)
      (λ n. let e : 2 ≡ (batch_outcome batch l).code = ap (λ (r : Ran). r.code) (sym (ran_unsound batch l n)) in absurd (omega (arith, e, z)))

  zero_batch : (batch_outcome batch l).code ≡ 0 → is_batch batch l ≡ true
  zero_batch z =
      by (is_batch batch l) (λ y. y)
      (λ n. let e : 3 ≡ (batch_outcome batch l).code = ap (λ (r : Ran). r.code) (sym (ran_none batch l (zero_sound z) n)) in absurd (omega (arith, e, z)))

  batch_store : sound_bytes l.store ≡ true → StoreOf (settings_of (words l.store)) l.store
  batch_store y = stores.store_of l.store (store_sound l.store y) (settings_of (words l.store)) refl

pub batch_theorem : BatchTheorem
unfolding decode_bytes
batch_theorem batch l b z =
    let y = zero_sound batch l z in
    let c : Settings = settings_of (words l.store) in
    let v = batch_store batch l y in
    let q : c.size ≡ (decode_bytes l.store).settings.size = size_is c l.store v in
    subst (λ (left : Lent). OneByOne (decode_bytes l.store).settings.size batch l left)
    (ap (λ (r : Ran). r.left) (sym (ran_all batch l y (zero_batch batch l z))))
    (subst (λ (size : ℕ). OneByOne size batch l (turns size batch (count batch) l)) q (one_by_one c batch l v b (zero_batch batch l z)))
