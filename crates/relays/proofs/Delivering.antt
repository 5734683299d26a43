-- deliver: what it asks, what it does, and what it answers.
use mathlib.Core.Path.{◌≡◌, refl, sym, ap, subst, ◌∙◌}
use mathlib.Core.List.{List, [], ◌∷◌, ◌++◌}
use mathlib.Core.Bool.{Bool, true, false, not, cond}
use Prim.Native.Nat.{ℕ, ◌+◌, ◌-◌, ◌≤◌, ◌<◌}
use native.Mathlib.Omega.{arith}
use lib.Dec.{ltb, eqb}
use lib.ListN.{length, take, drop, set}
use borrow.Author.Tests.{lt-ltb, le-ltb, eq-eqb, ne_eqb}
use Rattle.lists.specs.Tests.{◌and◌, ◌or◌}
use Rattle.lists.specs.Columns.{upd}
use Rattle.lists.proofs.Tests.{no_first, yes_first}
use Rattle.lists.proofs.Columns.{upd_same, upd_again}
use Rattle.words.specs.Words.{words}
use Rattle.std.specs.Prelude.{Ok, Err}
use Rattle.rules.specs.declared.settings.Settings.{Settings}
use Rattle.rules.specs.declared.refusal.Refusal.{Refusal}
use Rattle.rules.specs.declared.refusal.Refusal.TheVariants.{BadInput}
use Rattle.rules.specs.Refusals.{number}
use Rattle.rules.specs.Limits.{buckets}
use Rattle.rules.specs.Entries.{Entry, insert, takes}
use Rattle.rules.specs.Event.{Event}
use Rattle.rules.specs.State.{State, Bucket, Relay, set_bag, set_bucket, with_copies, with_taken}
use Rattle.rules.specs.Maps.{relay_at, is_taken, deliver_asks, remove_at, deliver_effect, drop_effect}
use Rattle.rules.specs.Derived.{up_member, bucket_no, bucket_at}
use Rattle.rules.specs.Question.{◌asks◌, first_no}
use Rattle.rules.specs.Step.{rule}
use Rattle.rules.proofs.Questions.{first_yes, first_stop, none_asked, all_yes}
use Rattle.codec.specs.Codec.{change}
use Rattle.layout.specs.Contents.{Agreed, blank_brick}
use Rattle.layout.specs.Layout.{bag_codec, agreed_at, taken_at}
use Rattle.layout.specs.Store.{brick_in, agreed_in, decode, render}
use Rattle.layout.proofs.Foci.{taken_in}
use Rattle.layout.proofs.Sound.{SoundWords}
use Rattle.lent.specs.Performs.{Performs}
use Rattle.lent.specs.Stores.{StoreOf}
use Rattle.lent.proofs.Performs.{refused, accepted}
use Rattle.mappings.specs.Copies.{with_entry}
use Rattle.mappings.proofs.Buckets.{InBucket, takes_is, member_stands}
use Rattle.mappings.proofs.Entering.{both_copies}
use Rattle.bag.specs.declared.Relay.{Relay as Read}
use Rattle.relays.specs.Relays.{BagSpan, BagPart, relay_of, takes_relay, FoundAt, Takeable}
use Rattle.relays.specs.Asks.{take_asks}
use Rattle.relays.proofs.Bag.{bag_later, bag_changed}
use Rattle.relays.proofs.Records.{record_word}

-- ---- a relay r as the code has read it
module _ (s : State) (r : Read) where
  abbrev own : Relay
  own = relay_of s r

  -- is it taken? a is its bucket's record
  pub old_relay : (own.view ≡ s.view → ⊥) → false ≡ takes_relay s own
  old_relay n = sym (no_first _ _ (ne_eqb own.view s.view n))

  pub new_relay : own.view ≡ s.view → (a : Agreed) → a ≡ agreed_in (bucket_at s own.block) → ltb a.taken own.order ≡ takes_relay s own
  new_relay q a e =
      sym (yes_first _ _ (eq-eqb own.view s.view q)) ∙ ap (λ (k : Agreed). eqb own.view s.view and ltb k.taken own.order) e

  -- the questions where it is
  module _ (most g : ℕ) (a : Agreed) (k : InBucket s most own.block g a) where
    backup_is : {x : Bool} → up_member s a.backup ≡ x → up_member s (bucket_at s own.block).backup ≡ x
    backup_is q = sym (ap (λ (i : Agreed). up_member s i.backup) k.agreed) ∙ q

    pub backup_down : up_member s a.backup ≡ false → 6 ≡ first_no (take_asks s own)
    backup_down n = sym (first_stop 6 _ (backup_is n))

    pub room_decides : up_member s a.backup ≡ true → (x : Bool) → takes most ((s.bucket g).memory a.backup) own.block ≡ x
        → cond x 0 14 ≡ first_no (take_asks s own)
    room_decides u x q = sym (first_yes 6 _ (backup_is u) ∙ last x (sym (takes_is s most own.block g a k (λ i. i.backup)) ∙ q))
      where
        last : {y : Bool} (x : Bool) → y ≡ x → first_no ((14 asks y) ∷ []) ≡ cond x 0 14
        last true e = first_yes 14 [] e ∙ none_asked
        last false e = first_stop 14 [] e

    -- all answered yes: the backup stands somewhere, and its copy takes the block
    module _ (i : ℕ) (m : Takeable s i own) where
      yes : (up_member s (bucket_at s own.block).backup ≡ true)
          × (takes s.settings.entries ((bucket_at s own.block).memory (bucket_at s own.block).backup) own.block ≡ true)
      unfolding ◌and◌
      yes = let y = all_yes (take_asks s own) refl m.asked in (y.0, y.1.0)

      pub backup_stands : brick_in s a.backup ≡ blank_brick → ⊥
      backup_stands = member_stands s a.backup (ap (λ (x : Agreed). up_member s x.backup) k.agreed ∙ yes.0)

      pub copy_takes : (id : ℕ) → id ≡ a.backup → takes most ((s.bucket g).memory id) own.block ≡ true
      copy_takes id q =
          ap (λ (j : ℕ). takes most ((s.bucket g).memory j) own.block) q ∙ takes_is s most own.block g a k (λ x. x.backup) ∙ yes.1

-- ---- the rules' effect, by whether the relay is taken
abbrev new_memory : State → Relay → ℕ → List Entry
new_memory s r =
    let bucket = s.bucket r.bucket in
    upd bucket.memory bucket.backup (insert (bucket.memory bucket.backup) r.block r.key)

abbrev new_bucket : State → Relay → Bucket
new_bucket s r = with_taken (s.bucket r.bucket) r.order (new_memory s r)

abbrev either_effect : State → ℕ → Relay → Bool → State
either_effect s i r taken = cond taken (set_bucket (set_bag s (remove_at s.bag i)) r.bucket (new_bucket s r)) (set_bag s (remove_at s.bag i))

effect_is : (s : State) (i : ℕ) → deliver_effect s i ≡ either_effect s i (relay_at s i) (is_taken s i)
unfolding deliver_effect
effect_is s i = refl

taken_is : (s : State) (i : ℕ) → is_taken s i ≡ takes_relay s (relay_at s i)
unfolding is_taken
taken_is s i = refl

module _ (s : State) (i : ℕ) (r : Relay) (f : FoundAt s i r) where
  decided : {x : Bool} → takes_relay s r ≡ x → is_taken s i ≡ x
  decided q = taken_is s i ∙ ap (takes_relay s) (sym f.same) ∙ q

  effect_by : {x : Bool} → takes_relay s r ≡ x → deliver_effect s i ≡ either_effect s i r x
  effect_by {x} q = effect_is s i ∙ ap (either_effect s i (relay_at s i)) (decided q) ∙ ap (λ (j : Relay). either_effect s i j x) (sym f.same)

  pub set_aside : takes_relay s r ≡ false → drop_effect s i ≡ deliver_effect s i
  unfolding drop_effect
  set_aside n = sym (effect_by n)

-- ---- the backup takes it: first its memory, then the bag, then the highest number taken
abbrev first : State → Relay → State
first s r = with_entry s r.bucket (s.bucket r.bucket).backup r.block r.key

module _ (s : State) (i : ℕ) (r : Relay) where
  abbrev second : State
  second = set_bag (first s r) (remove_at s.bag i)

  in_memory : (first s r).bucket r.bucket ≡ with_copies (s.bucket r.bucket) (new_memory s r) (s.bucket r.bucket).disk
  unfolding with_entry
  in_memory = upd_same s.bucket r.bucket _

  last : Takeable s i r → set_bucket second r.bucket (new_bucket s r) ≡ deliver_effect s i
  unfolding with_entry
  last k =
      ap (λ (f : ℕ → Bucket). record {
        settings = s.settings;
        ids = s.ids;
        given = s.given;
        view = s.view;
        started = s.started;
        bricks = s.bricks;
        bucket = f;
        bag = remove_at s.bag i;
        items = s.items;
        known = s.known;
      }) (upd_again s.bucket r.bucket _ (new_bucket s r)) ∙ sym (effect_by s i r k.found k.taken)

-- the code has entered it, by the bucket's number g and the backup's id, into the bytes vs; the bag lies at bytes o to e
pub entered_rule : (s : State) (r : Read) (most g : ℕ) (a : Agreed) → InBucket s most r.block.0 g a → (id : ℕ) → id ≡ a.backup → (ws vs : List ℕ)
    → vs ≡ render (with_entry s g id r.block.0 r.key.0) ws → vs ≡ render (first s (relay_of s r)) ws
entered_rule s r most g a k id ei ws vs w =
    let it = relay_of s r in
    w ∙ ap (λ (j : ℕ). render (with_entry s j id it.block it.key) ws) k.number
    ∙ ap (λ (j : ℕ). render (with_entry s it.bucket j it.block it.key) ws) (ei ∙ ap (λ (x : Agreed). x.backup) k.agreed)

pub record Entered (c : Settings) (bs : List ℕ) (i : ℕ) (r : Read) (g o e : ℕ) (vs : List ℕ) : Type 0 where
  pub store : StoreOf c bs
  pub relay : Takeable (decode (words bs)) i (relay_of (decode (words bs)) r)
  pub number : g ≡ bucket_no (decode (words bs)) r.block.0
  pub bucket : g < buckets c
  pub span : BagSpan c o e
  pub entry : words vs ≡ render (first (decode (words bs)) (relay_of (decode (words bs)) r)) (words bs)
  pub size : length vs ≡ length bs

module _ {c : Settings} {bs : List ℕ} {i : ℕ} {r : Read} {g o e : ℕ} {vs : List ℕ} (n : Entered c bs i r g o e vs) where
  abbrev state : State
  state = decode (words bs)

  abbrev it : Relay
  it = relay_of state r

  pub bag_stays : BagPart state.bag (take (e - o) (drop o vs))
  unfolding with_entry
  bag_stays = bag_later c bs n.store o e n.span (first state it) refl refl vs n.entry n.size

  pub delivered : (part : List ℕ) → length part ≡ length (take (e - o) (drop o vs))
      → words part ≡ change bag_codec (λ l. remove_at l i) (words (take (e - o) (drop o vs))) → (at : ℕ) → at ≡ agreed_at g + taken_at
      → set (words (take o vs ++ (part ++ drop (e - o) (drop o vs)))) at it.order ≡ render (deliver_effect state i) (words bs)
  unfolding with_entry
  delivered part lp ep at ea =
      ap (λ (x : List ℕ). set x at it.order)
      (bag_changed c bs n.store o e n.span (first state it) refl refl vs n.entry n.size (λ x. remove_at x i) part lp ep)
      ∙ ap (λ (j : ℕ). set (render (second state i it) (words bs)) j it.order) (ea ∙ ap (λ (j : ℕ). agreed_at j + taken_at) n.number)
      ∙ sym (record_word (second state i it) it.bucket (new_bucket state it) (λ j. ap (λ (x : Bucket). both_copies x j) (in_memory state i it))
      c bs n.store refl (subst (λ (j : ℕ). j < buckets c) n.number n.bucket) taken_in
      (subst (λ (x : Bucket). taken_in.Else (agreed_in x) (agreed_in (new_bucket state it))) (sym (in_memory state i it))
      ((((((refl, refl), refl), refl), refl), refl), refl)))
      ∙ ap (λ (t : State). render t (words bs)) (last state i it n.relay)

-- ---- the event
asked_taken : (t u x : Bool) → t ≡ true → first_no ((6 asks not t or u) ∷ (14 asks not t or x) ∷ []) ≡ first_no ((6 asks u) ∷ (14 asks x) ∷ [])
unfolding ◌or◌
asked_taken true u x q = refl
asked_taken false u x q = absurd (let z : ◌≡◌ {A = ℕ} 0 1 = cc in omega arith)

asked_aside : (t u x : Bool) → t ≡ false → first_no ((6 asks not t or u) ∷ (14 asks not t or x) ∷ []) ≡ 0
unfolding first_no ◌or◌
asked_aside false u x q = refl
asked_aside true u x q = absurd (let z : ◌≡◌ {A = ℕ} 0 1 = cc in omega arith)

module _ (ws : List ℕ) (i : ℕ) where
  abbrev store : State
  store = decode ws

  pub deliver_none : SoundWords ws → length store.bag ≤ i → Performs (Event.deliver i) ws (Err BadInput) ws
  unfolding rule
  deliver_none sd h = refused (Event.deliver i) ws sd _ (sym (first_stop 3 _ (le-ltb i (length store.bag) h)))

  module _ (r : Relay) (f : FoundAt store i r) where
    pub deliver_aside : takes_relay store r ≡ false → (after : List ℕ) → after ≡ render (drop_effect store i) ws
        → Performs (Event.deliver i) ws (Ok 0) after
    unfolding rule
    deliver_aside n after e =
        let d = decided store i r f n in
        subst (λ (key : ℕ). Performs (Event.deliver i) ws (Ok key) after) (ap (λ (t : Bool). cond t 1 0) d)
        (accepted (Event.deliver i) ws after (first_yes 3 _ (lt-ltb i (length store.bag) f.inside) ∙ asked_aside (is_taken store i) _ _ d)
        (e ∙ ap (λ (t : State). render t ws) (set_aside store i r f n)))

    asked : takes_relay store r ≡ true → first_no (deliver_asks store i) ≡ first_no (take_asks store r)
    asked y =
        first_yes 3 _ (lt-ltb i (length store.bag) f.inside) ∙ asked_taken (is_taken store i) _ _ (decided store i r f y)
        ∙ ap (λ (j : Relay). first_no (take_asks store j)) (sym f.same)

    pub deliver_no : SoundWords ws → takes_relay store r ≡ true → (n : Refusal) → number n ≡ first_no (take_asks store r)
        → Performs (Event.deliver i) ws (Err n) ws
    unfolding rule
    deliver_no sd y n e = refused (Event.deliver i) ws sd n (e ∙ sym (asked y))

  pub deliver_yes : (r : Relay) → Takeable store i r → (after : List ℕ) → after ≡ render (deliver_effect store i) ws
      → Performs (Event.deliver i) ws (Ok 1) after
  unfolding rule
  deliver_yes r k after e =
      subst (λ (key : ℕ). Performs (Event.deliver i) ws (Ok key) after) (ap (λ (t : Bool). cond t 1 0) (decided store i r k.found k.taken))
      (accepted (Event.deliver i) ws after (asked r k.found k.taken ∙ k.asked) e)
