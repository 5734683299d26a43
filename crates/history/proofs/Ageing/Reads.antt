-- done and get keep the invariant of the ageing rule: the mark of a block that is not pending becomes the number of the one key that all four copies give.
-- And what a get answers obeys the rule.
use mathlib.Core.Path.{◌≡◌, refl, sym, ap, ◌∙◌}
use mathlib.Core.List.{List, Memᴰ}
use mathlib.Core.Bool.{true, cond}
use mathlib.Core.Logic.{inl, inr}
use Prim.Native.Nat.{ℕ, ◌≤◌, ◌<◌}
use native.Mathlib.Omega.{arith}
use lib.ListN.{length}
use borrow.Author.Tests.{eqb-true, ltb-true}
use lib.Dec.{ltb, eqb}
use Rattle.lists.specs.Tests.{◌or◌}
use Rattle.lists.specs.Columns.{upd}
use Rattle.lists.proofs.Tests.{by_eq, clash, or_second}
use Rattle.lists.proofs.Columns.{upd_other, upd_all}
use Rattle.rules.specs.Limits.{buckets}
use Rattle.rules.specs.Numbers.{bucket_of}
use Rattle.rules.specs.Entries.{Entry}
use Rattle.rules.specs.Event.{Event}
use Rattle.rules.specs.State.{State}
use Rattle.rules.specs.Derived.{holder, bucket_no, bucket_at, agree, item}
use Rattle.rules.specs.Question.{not_pending}
use Rattle.rules.specs.Reads.{mapped, get_bytes}
use Rattle.rules.specs.Step.{Answer, rule}
use Rattle.rules.proofs.Step.{Yes}
use Rattle.rules.proofs.Derived.{bucket_below, agrees, first_holder_held}
use Rattle.rules.proofs.Sound.{Sound}
use Rattle.history.specs.Claim.{Write, History, number, meaning, record_event, Shown}
use Rattle.history.proofs.History.{number_most}
use Rattle.history.proofs.Copies.{ReliedOn, Copies, copies_map, primary_relied, copies_agreed}
use Rattle.history.proofs.Sound.Groups.{member_here}
use Rattle.history.proofs.Facts.{zero_number, item_newest}
use Rattle.history.proofs.AgeingInvariant.{Readable, AgeOf, AgeingInvariant}
use Rattle.history.proofs.Ageing.Writes.{write_bytes_held}
use Rattle.history.proofs.Ageing.Maps.{item_goes_ageing}

-- the mark that a get leaves
no_later : (w : List Write) (k : ℕ) → cond (eqb k 0) 0 (number w k) ≤ number w k
no_later w k = by_eq k 0 (λ q _. rw q (omega arith)) (λ q _. rw q (omega arith))

module _ (s : State) (h : History) (v : AgeingInvariant s h) where
  module _ (b m : ℕ) (ready : (bucket_at s b).ready ≡ true) (one_key : agree (bucket_at s b) b ≡ true) (top : m ≤ number (h.writes b) (mapped s b)) where
    abbrev marked' : History
    marked' = record { writes = h.writes; mark = upd h.mark b m }

    abbrev Was : ℕ → ℕ → ℕ → Type 0
    Was = Readable h.writes h.mark (buckets s.settings) s.bricks.buffer

    abbrev Is : ℕ → ℕ → ℕ → Type 0
    Is = Readable h.writes (upd h.mark b m) (buckets s.settings) s.bricks.buffer

    -- nothing waits for the block
    none_waits : (i : ℕ) (e : Entry) → Memᴰ e (s.bricks.buffer i) → e.block ≡ b → ⊥
    none_waits i e l z =
        clash ((v.buckets (bucket_no s b) (bucket_below s.settings b)).waiting i e l (ap (bucket_of (buckets s.settings)) z)).unready ready

    -- a block of a bucket whose four copies agree on b
    agreed : (g c j : ℕ) → (c ≡ b → bucket_of (buckets s.settings) c ≡ g → j ≡ mapped s b) → Was g c j → Is g c j
    unfolding upd
    agreed g c j e t = record {
      known = t.known;
      floor = λ z. by_eq c b (λ q n. rw (q, n, e n z) top) (λ q _. rw q (t.floor z));
      waits = t.waits;
    }

    own_copies : let k = bucket_at s b in Copies (Is (bucket_no s b)) (ReliedOn s.bricks.present k) k.memory k.disk
    own_copies =
        let u = v.buckets (bucket_no s b) (bucket_below s.settings b) in
        copies_agreed (bucket_at s b) (u.same ready) _ _ (λ c j y. agreed _ c j (λ n _. rw n at (y (rw n one_key)))) u.copies

    mark_bucket : (g : ℕ) → AgeOf s marked' g (s.bucket g)
    mark_bucket g z =
        let u = v.buckets g z in
        record {
          same = u.same;
          copies = by_eq g (bucket_no s b) (λ _ e. rw e own_copies)
              (λ _ n. copies_map _ _ (λ c j. agreed g c j (λ e q. absurd (n (sym q ∙ ap (bucket_of (buckets s.settings)) e)))) (λ _ r. r) u.copies);
          waiting = λ i e l y. let t = u.waiting i e l y in record {
            whose = t.whose;
            unready = t.unready;
            is_write = t.is_write;
            floor = rw (upd_other h.mark b e.block m (none_waits i e l)) t.floor;
          };
          queue = u.queue;
          flight = u.flight;
        }

    mark_least : (c : ℕ) → upd h.mark b m c ≤ length (h.writes c)
    mark_least = upd_all (λ c n. n ≤ length (h.writes c)) h.mark b m v.marked (omega (arith, top, number_most (h.writes b) (mapped s b)))

    pub marked_ageing : AgeingInvariant s marked'
    marked_ageing = record { keys = v.keys; marked = mark_least; items = v.items; logs = v.logs; relays = v.relays; buckets = mark_bucket }

  pub get_ageing : (p b : ℕ) → Yes s (Event.get p b) → AgeingInvariant (rule s (Event.get p b)).after (record_event h (meaning (Event.get p b)) (rule s (Event.get p b)).said)
  unfolding rule meaning
  get_ageing p b y =
      let ready : (bucket_at s b).ready ≡ true = search in
      let settled : not_pending s b ≡ true = search in
      marked_ageing b _ ready (agrees (bucket_at s b) b ready settled) (omega (arith, no_later (h.writes b) (mapped s b)))

  pub done_ageing : (p b : ℕ) (a : Answer) → Yes s (Event.done p b) → AgeingInvariant (rule s (Event.done p b)).after (record_event h (meaning (Event.done p b)) a)
  unfolding rule meaning
  done_ageing p b a y =
      let ready : (bucket_at s b).ready ≡ true = search in
      let settled : not_pending s b ≡ true = search in
      let its : mapped s b ≡ item s p b = search eqb-true in
      let last = (item_newest s h v p b (search)).last in
      item_goes_ageing s _ (marked_ageing b _ ready (agrees (bucket_at s b) b ready settled) (omega (arith, last, ap (number (h.writes b)) its))) p b

  -- what a get answers
  pub get_shown : Sound s → (p b : ℕ) → Yes s (Event.get p b) → Shown s.settings.size (h.writes b) (h.mark b) (rule s (Event.get p b)).said
  unfolding rule get_bytes holder
  get_shown o p b y =
      let k = bucket_at s b in
      let u = v.buckets (bucket_no s b) (bucket_below s.settings b) in
      let ready : k.ready ≡ true = search in
      let held : (eqb (mapped s b) 0 or ltb 0 (holder s (mapped s b))) ≡ true = search in
      let t = u.copies.memory k.primary (primary_relied k (u.same ready) (member_here o k.primary (search))) b in
      by_eq (mapped s b) 0 (λ q e. inl (e, rw q refl, omega (arith, zero_number s h v b, rw e at (t.floor refl))))
      (λ q n.
      let is_write : 0 < number (h.writes b) (mapped s b) = elim t.known [ inl z ↦ absurd (n z) | inr z ↦ z ] in
      let found = ltb-true _ _ (or_second _ _ held q) in
      inr (is_write, rw q (write_bytes_held s h v (holder s (mapped s b)) (mapped s b) (first_holder_held s.bricks (mapped s b) _ found) b is_write), t.floor refl))
