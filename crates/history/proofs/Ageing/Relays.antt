-- send, deliver and drop keep the invariant of the ageing rule.
use mathlib.Core.Path.{◌≡◌, refl, sym, ap, ◌∙◌}
use mathlib.Core.List.{List, [], ◌∷◌, ◌++◌, Memᴰ}
use mathlib.Core.Bool.{Bool, true}
use mathlib.Core.Logic.{◌⊎◌, inl, inr}
use Prim.Native.Nat.{ℕ, suc, ◌<◌}
use native.Mathlib.Omega.{arith}
use borrow.Author.Tests.{eqb-true, ltb-true}
use Rattle.lists.specs.Columns.{upd}
use Rattle.lists.proofs.Tests.{by_eq, either, clash, and_l, and_r, if_so, one_more, get_or_in}
use Rattle.lists.proofs.Columns.{upd_same, upd_other, upd_all}
use Rattle.rules.specs.Limits.{buckets}
use Rattle.rules.specs.Numbers.{bucket_of}
use Rattle.rules.specs.Entries.{Entry, key_for, insert}
use Rattle.rules.specs.Event.{Event}
use Rattle.rules.specs.State.{State, Bucket, Relay, blank_relay, set_bag, with_last_sent, with_taken}
use Rattle.rules.specs.Derived.{bucket_no, bucket_at, primary_memory}
use Rattle.rules.specs.Maps.{new_relay, send_effect, relay_at, relay_bucket, is_taken, remove_at, deliver_effect, drop_effect}
use Rattle.rules.specs.Step.{rule}
use Rattle.rules.proofs.Step.{Yes}
use Rattle.rules.proofs.Derived.{bucket_below}
use Rattle.rules.proofs.Entries.{has_entry, key_for_insert}
use Rattle.rules.proofs.Sound.{Sound}
use Rattle.history.specs.Claim.{History, number}
use Rattle.history.proofs.Copies.{copies_insert, primary_relied, backup_relied}
use Rattle.history.proofs.Sound.Lists.{remove_at_in}
use Rattle.history.proofs.Sound.Groups.{member_here}
use Rattle.history.proofs.Facts.{key_first, moves_ageing}
use Rattle.history.proofs.AgeingInvariant.{Writes, Older, InBag, Queue, Flight, BucketAge, AgeOf, AgeingInvariant}

-- ---- the bag: a relay leaves it
pub still_in_bag : {g view : ℕ} (bag : List Relay) (n : ℕ) {r : Relay} → InBag g view (remove_at bag n) r → InBag g view bag r
still_in_bag bag n m = record { in_bag = remove_at_in bag n m.in_bag; mine = m.mine; now = m.now }

-- fewer relays of a bucket
module _ {w : Writes} {g view view' : ℕ} {bag bag' : List Relay} (was : (r : Relay) → InBag g view' bag' r → InBag g view bag r) where
  pub queue_fewer : {order : ℕ} {ready : Bool} → Queue w g bag view order ready → Queue w g bag' view' order ready
  queue_fewer q = record {
    ordered = λ r m. q.ordered r (was r m);
    while_ready = λ r m. q.while_ready r (was r m);
    sorted = λ r t m n. q.sorted r t (was r m) (was t n);
  }

  pub flight_fewer : {memory disk : ℕ → List Entry} {member : ℕ → Bool} {taken primary backup : ℕ} {ready : Bool}
      → Flight w g memory disk member bag view taken primary backup ready → Flight w g memory disk member bag' view' taken primary backup ready
  flight_fewer f = record {
    behind = λ r m. f.behind r (was r m);
    disk_behind = f.disk_behind;
    leads = λ y r m. f.leads y r (was r m);
    ahead = f.ahead;
  }

  pub bucket_fewer : {mark : ℕ → ℕ} {count : ℕ} {buffer : ℕ → List Entry} {present member : ℕ → Bool} {k : Bucket}
      → BucketAge w mark count view bag buffer present member g k → BucketAge w mark count view' bag' buffer present member g k
  bucket_fewer u = record { same = u.same; copies = u.copies; waiting = u.waiting; queue = queue_fewer u.queue; flight = flight_fewer u.flight }

module _ (s : State) (h : History) (v : AgeingInvariant s h) where
  pub fewer_ageing : (n : ℕ) → AgeingInvariant (set_bag s (remove_at s.bag n)) h
  fewer_ageing n = moves_ageing v (λ r m. v.relays r (remove_at_in s.bag n m)) (λ g z. bucket_fewer (λ r. still_in_bag s.bag n) (v.buckets g z))

  pub drop_ageing : (n : ℕ) → AgeingInvariant (rule s (Event.drop n)).after h
  unfolding rule drop_effect
  drop_ageing n = fewer_ageing n

-- ---- send
module _ (s : State) (h : History) (v : AgeingInvariant s h) (o : Sound s) (b : ℕ) (y : Yes s (Event.send b)) where
  abbrev own : Bucket
  own = bucket_at s b

  abbrev which : ℕ
  which = bucket_no s b

  abbrev bag' : List Relay
  bag' = s.bag ++ (new_relay s b ∷ [])

  age : BucketAge h.writes h.mark (buckets s.settings) s.view s.bag s.bricks.buffer s.bricks.present s.bricks.member which own
  age = v.buckets which (bucket_below s.settings b)

  pub send_member : s.bricks.member own.primary ≡ true
  unfolding rule
  send_member = search and_r

  pub send_ready : own.ready ≡ true
  unfolding rule
  send_ready = search

  -- the primary's entry is some write's
  sends_write : 0 < number (h.writes b) (key_for (primary_memory own) b)
  unfolding rule
  sends_write =
      let inside = bucket_below s.settings b in
      let t = has_entry (primary_memory own) b (search) in
      let key = (((o.buckets_ok which inside).memory own.primary).each t.0 t.1).key in
      let relied = primary_relied own (age.same send_ready) (member_here o own.primary (search)) in
      elim (age.copies.memory own.primary relied b).known [
        | inl z ↦ absurd (omega (arith, key_first _ key, t.3))
        | inr z ↦ z
      ]

  sent_in : (r : Relay) → Memᴰ r bag' → (Memᴰ r s.bag) ⊎ (r ≡ new_relay s b)
  sent_in = one_more s.bag (λ r m. inl m) (inr refl)

  pub sent_in_bag : (j : ℕ) (r : Relay) → InBag j s.view bag' r → (InBag j s.view s.bag r) ⊎ ((r ≡ new_relay s b) × (which ≡ j))
  sent_in_bag j r m =
      elim (sent_in r m.in_bag) [
        | inl z ↦ inl (record { in_bag = z; mine = m.mine; now = m.now })
        | inr z ↦ inr (z, sym (ap (λ (q : Relay). q.bucket) z) ∙ m.mine)
      ]

  abbrev Either : Relay → Type 0
  Either r = (InBag which s.view s.bag r) ⊎ ((r ≡ new_relay s b) × (which ≡ which))

  sorted : (r t : Relay) → Either r → Either t → r.order < t.order → r.block ≡ t.block → Older h.writes r.block r.key t.key
  sorted r t (inl m) (inl n) a e = age.queue.sorted r t m n a e
  sorted r t (inl m) (inr n) a e =
      let block : r.block ≡ b = e ∙ ap (λ (q : Relay). q.block) n.0 in
      let key : t.key ≡ key_for (primary_memory own) r.block = rw (n.0, block) in
      rw key (age.flight.leads send_member r m)
  sorted r t (inr m) (inl n) a e = absurd (omega (arith, age.queue.ordered t n, ap (λ (q : Relay). q.order) m.0))
  sorted r t (inr m) (inr n) a e = absurd (omega (arith, ap (λ (q : Relay). q.order) m.0, ap (λ (q : Relay). q.order) n.0))

  abbrev SentOf : ℕ → Bucket → Type 0
  SentOf = BucketAge h.writes h.mark (buckets s.settings) s.view bag' s.bricks.buffer s.bricks.present s.bricks.member

  mine : SentOf which (with_last_sent own (suc own.last_sent))
  mine = record {
    same = age.same;
    copies = age.copies;
    waiting = age.waiting;
    queue = record {
      ordered = λ r m. elim (sent_in_bag which r m) [ inl n ↦ omega (arith, age.queue.ordered r n) | inr z ↦ rw z.0 (omega arith) ];
      while_ready = λ r m. send_ready;
      sorted = λ r t m n. sorted r t (sent_in_bag which r m) (sent_in_bag which t n);
    };
    flight = record {
      behind = λ r m t. elim (sent_in_bag which r m) [ inl n ↦ age.flight.behind r n t | inr z ↦ rw z.0 (age.flight.ahead send_ready send_member b) ];
      disk_behind = age.flight.disk_behind;
      leads = λ n r m. elim (sent_in_bag which r m) [ inl l ↦ age.flight.leads n r l | inr z ↦ rw z.0 (omega arith) ];
      ahead = age.flight.ahead;
    };
  }

  others : (j : ℕ) → (j ≡ which → ⊥) → j < buckets s.settings → SentOf j (s.bucket j)
  others j e z = bucket_fewer (λ r m. elim (sent_in_bag j r m) [ inl n ↦ n | inr n ↦ absurd (e (sym n.1)) ]) (v.buckets j z)

  pub send_ageing : AgeingInvariant (rule s (Event.send b)).after h
  unfolding rule send_effect upd
  send_ageing =
      moves_ageing v (one_more s.bag v.relays (record { is_write = sends_write; past = omega arith }))
      (λ j. by_eq j which (λ q e. rw (q, e) (λ _. mine)) (λ q e. rw q (others j e)))

-- ---- deliver
module _ (s : State) (h : History) (v : AgeingInvariant s h) (o : Sound s) (n : ℕ) (y : Yes s (Event.deliver n)) where
  abbrev relay : Relay
  relay = relay_at s n

  abbrev its : Bucket
  its = relay_bucket s n

  abbrev memory' : ℕ → List Entry
  memory' = upd its.memory its.backup (insert (its.memory its.backup) relay.block relay.key)

  in_bag : Memᴰ relay s.bag
  unfolding rule
  in_bag = get_or_in s.bag n blank_relay (search ltb-true)

  home : bucket_of (buckets s.settings) relay.block ≡ relay.bucket
  home = (o.relays relay in_bag).bucket

  inside : relay.bucket < buckets s.settings
  inside = rw home at (bucket_below s.settings relay.block)

  module _ (due : is_taken s n ≡ true) where
    pub is_in_bag : InBag relay.bucket s.view s.bag relay
    unfolding is_taken
    is_in_bag = record { in_bag = in_bag; mine = refl; now = eqb-true _ _ (and_l _ _ due) }

    pub it_is_new : its.taken < relay.order
    unfolding is_taken
    it_is_new = ltb-true _ _ (and_r _ _ due)

    taken : AgeOf (set_bag s (remove_at s.bag n)) h relay.bucket (with_taken its relay.order memory')
    unfolding rule upd
    taken _ =
        let u = v.buckets relay.bucket inside in
        let f = u.flight in
        let ready : its.ready ≡ true = u.queue.while_ready relay is_in_bag in
        let present = member_here o its.backup (if_so (is_taken s n) _ (search) due) in
        let apart : its.primary ≡ its.backup → ⊥ = (o.buckets_ok relay.bucket inside).pair.apart in
        let floor = (u.copies.memory its.backup (backup_relied its (u.same ready) present) relay.block).floor home in
        let l = insert (its.memory its.backup) relay.block relay.key in
        let was : (r : Relay) → InBag relay.bucket s.view (remove_at s.bag n) r → InBag relay.bucket s.view s.bag r
        = λ r. still_in_bag s.bag n in
        let at_primary : memory' its.primary ≡ its.memory its.primary = upd_other its.memory its.backup its.primary l apart in
        let at_backup : (c : ℕ) → key_for (memory' its.backup) c ≡ upd (key_for (its.memory its.backup)) relay.block relay.key c
        = λ c. rw (upd_same its.memory its.backup l) (key_for_insert (its.memory its.backup) relay.block relay.key c) in
        record {
          same = u.same;
          copies = copies_insert _ u.copies its.backup relay.block relay.key (record {
            known = inr (v.relays relay in_bag).is_write;
            floor = λ _. omega (arith, f.behind relay is_in_bag it_is_new, floor);
            waits = λ i e m z. clash (u.waiting i e m (ap (bucket_of (buckets s.settings)) z ∙ home)).unready ready;
          });
          waiting = u.waiting;
          queue = queue_fewer was u.queue;
          flight = record {
            behind = λ r m t. rw (at_backup r.block)
                (by_eq r.block relay.block (λ q e. rw (q, e) (u.queue.sorted relay r is_in_bag (was r m) t (sym e)))
                (λ q _. rw q (f.behind r (was r m) (omega (arith, it_is_new, t)))));
            disk_behind = λ _ c. rw (at_backup c)
                (by_eq c relay.block (λ q e. rw (q, e) (omega (arith, f.disk_behind ready relay.block, f.behind relay is_in_bag it_is_new)))
                (λ q _. rw q (f.disk_behind ready c)));
            leads = λ t r m. rw at_primary (f.leads t r (was r m));
            ahead = λ t z c. rw (at_primary, at_backup c)
                (by_eq c relay.block (λ q e. rw (q, e) (f.leads z relay is_in_bag)) (λ q _. rw q (f.ahead t z c)));
          };
        }

  pub deliver_ageing : AgeingInvariant (rule s (Event.deliver n)).after h
  unfolding rule deliver_effect
  deliver_ageing =
      let u = fewer_ageing s h v n in
      either (λ (t : State). AgeingInvariant t h) (is_taken s n)
      (λ due. moves_ageing v u.relays (upd_all (AgeOf (set_bag s (remove_at s.bag n)) h) s.bucket relay.bucket _ u.buckets (taken due)))
      (λ _. u)
