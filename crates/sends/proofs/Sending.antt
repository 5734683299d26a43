-- send: what its questions say, and what a relay in the bag and a new order number make of a lent store.
use mathlib.Core.Path.{◌≡◌, refl, sym, ap, ◌∙◌}
use mathlib.Core.List.{List, [], ◌∷◌, ◌++◌}
use mathlib.Core.Bool.{Bool, true, false, cond}
use Prim.Native.Nat.{ℕ, suc, ◌+◌, ◌-◌, ◌≤◌, ◌<◌}
use native.Mathlib.Omega.{arith}
use lib.ListN.{length, take, drop, set}
use borrow.Author.Tests.{lt-ltb, le-ltb, ltb-true}
use Rattle.lists.specs.Tests.{◌and◌}
use Rattle.words.specs.Words.{words}
use Rattle.rules.specs.declared.settings.Settings.{Settings}
use Rattle.rules.specs.Limits.{buckets, max_relays, max_view_or_order}
use Rattle.rules.specs.Entries.{Entry, has}
use Rattle.rules.specs.State.{State, Relay, set_bag, with_last_sent}
use Rattle.rules.specs.Maps.{send_asks, send_effect, new_relay}
use Rattle.rules.specs.Derived.{bucket_no, bucket_at}
use Rattle.rules.specs.Question.{◌asks◌, first_no}
use Rattle.rules.specs.Reads.{mapped}
use Rattle.rules.proofs.Questions.{first_yes, first_stop, none_asked, all_yes}
use Rattle.codec.specs.Codec.{change}
use Rattle.layout.specs.Contents.{Agreed, relay}
use Rattle.layout.specs.Layout.{bag_codec, agreed_at, last_sent_at}
use Rattle.layout.specs.Store.{decode, render}
use Rattle.layout.proofs.Foci.{order_in}
use Rattle.lent.specs.Stores.{StoreOf}
use Rattle.mappings.proofs.Buckets.{InBucket, memory_is}
use Rattle.relays.specs.Relays.{BagSpan}
use Rattle.sends.specs.Asks.{room_asks}
use Rattle.relays.proofs.Bag.{bag_becomes}
use Rattle.relays.proofs.Records.{record_word}

-- ---- where every answer is yes
pub record Sendable (s : State) (b : ℕ) : Type 0 where
  pub room : length s.bag < max_relays
  pub order : (bucket_at s b).last_sent < max_view_or_order

pub sendable : (s : State) (b : ℕ) → first_no (send_asks s b) ≡ 0 → Sendable s b
unfolding ◌and◌
sendable s b y =
    let q = (all_yes (send_asks s b) refl y).1.1.1 in
    record { room = ltb-true (length s.bag) max_relays q.0; order = ltb-true (bucket_at s b).last_sent max_view_or_order q.1.0 }

-- ---- as the code has read them: g is the number of the block's bucket, a its record
module _ (s : State) (most b g : ℕ) (a : Agreed) (k : InBucket s most b g a) where
  order_is : a.last_sent ≡ (bucket_at s b).last_sent
  order_is = ap (λ (x : Agreed). x.last_sent) k.agreed

  -- the questions of room
  module _ (m : length s.bag < max_relays) where
    pub no_order : max_view_or_order ≤ a.last_sent → 12 ≡ first_no (room_asks s b)
    no_order n =
        sym (first_yes 10 _ (lt-ltb (length s.bag) max_relays m)
        ∙ first_stop 12 _ (le-ltb (bucket_at s b).last_sent max_view_or_order (omega (arith, order_is))))

    pub entry_decides : a.last_sent < max_view_or_order → (x : Bool) → has ((s.bucket g).memory a.primary) b ≡ x → cond x 0 13 ≡ first_no (room_asks s b)
    entry_decides o x q =
        sym (first_yes 10 _ (lt-ltb (length s.bag) max_relays m)
        ∙ first_yes 12 _ (lt-ltb (bucket_at s b).last_sent max_view_or_order (omega (arith, order_is)))
        ∙ last x (ap (λ (l : List Entry). has l b) (sym (memory_is s most b g a k (λ i. i.primary))) ∙ q))
      where
        last : {y : Bool} (x : Bool) → y ≡ x → first_no ((13 asks y) ∷ []) ≡ cond x 0 13
        last true e = first_yes 13 [] e ∙ none_asked
        last false e = first_stop 13 [] e

  -- a number is left, and the relay
  pub order_left : (bucket_at s b).last_sent < max_view_or_order → a.last_sent < max_view_or_order
  order_left l = omega (arith, order_is)

  pub relay_is : (view key : ℕ) → view ≡ s.view → key ≡ mapped s b → relay view g (a.last_sent + 1) b key ≡ new_relay s b
  relay_is view key ev ek =
      let n = k.number in
      let es : a.last_sent + 1 ≡ suc (bucket_at s b).last_sent = omega (arith, order_is) in
      cc

-- ---- it goes into the bag, bytes o to e, and the order number into the word at `at`
module _ (c : Settings) (bs : List ℕ) (v : StoreOf c bs) (o e : ℕ) (p : BagSpan c o e) (b g : ℕ)
    (n : g ≡ bucket_no (decode (words bs)) b) (l : g < buckets c) where
  pub sent : (r : Relay) → r ≡ new_relay (decode (words bs)) b → (part : List ℕ) → length part ≡ length (take (e - o) (drop o bs))
      → words part ≡ change bag_codec (λ m. m ++ r ∷ []) (words (take (e - o) (drop o bs))) → (at : ℕ) → at ≡ agreed_at g + last_sent_at
      → set (words (take o bs ++ (part ++ drop (e - o) (drop o bs)))) at r.order ≡ render (send_effect (decode (words bs)) b) (words bs)
  unfolding send_effect
  sent r er part lp ep at ea =
      let s = decode (words bs) in
      let with_relay = set_bag s (s.bag ++ (new_relay s b ∷ [])) in
      rw (bag_becomes c bs v o e p (λ m. m ++ r ∷ []) part lp ep, ea, n, er)
      (sym (record_word with_relay (bucket_no s b) (with_last_sent (bucket_at s b) (suc (bucket_at s b).last_sent)) (λ i. refl) c bs v refl (rw n at l)
      order_in ((((((refl, refl), refl), refl), refl), refl), refl)))
