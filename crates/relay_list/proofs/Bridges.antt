-- Send, deliver and drop on records, between the bridges, are what the functions on words do.
use mathlib.Core.Path.{◌≡◌, refl, sym, ◌∙◌, ap}
use mathlib.Core.Bool.{true, cond}
use lib.Dec.{ltb, leb}
use mathlib.Core.List.{List, [], ◌∷◌, ◌++◌}
use Prim.Native.Nat.{ℕ, zero, suc, ◌-◌, ◌<◌, ◌≤◌}
use native.Mathlib.Omega.{arith}
use lib.ListN.{length, get_or, length-append}
use borrow.Author.Tests.{lt-ltb, le-leb}
use Rattle.lists.proofs.Tests.{both}
use Rattle.words.specs.Words.{words}
use Rattle.words.proofs.Laws.{length_words}
use Rattle.rules.specs.Limits.{max_relays}
use Rattle.rules.specs.State.{Relay as Held, blank_relay}
use Rattle.rules.specs.Maps.{remove_at}
use Rattle.rules.specs.Question.{first_no}
use Rattle.codec.specs.Codec.{change}
use Rattle.codec.proofs.Loops.{table_is}
use Rattle.tables.specs.Tables.{IsTable}
use Rattle.tables.proofs.Typed.{typed_back}
use Rattle.layout.specs.Contents.{relay_row}
use Rattle.layout.specs.Layout.{bag_codec, bag_words}
use Rattle.layout.proofs.Codecs.{relay_exact}
use Rattle.bag.specs.Relays.{relay_words}
use Rattle.bag.specs.declared.Relay.{Relay}
use Rattle.relay_list.specs.Relays.{relay_of, relays_of, bag_of, over, is_within, without, Loads, Stores}
use Rattle.relay_list.specs.Bridges.{AsOnWords}
use Rattle.relay_list.proofs.Records.{bag_over}
use Rattle.relay_list.proofs.Words.{held_count}

-- as many records as are in use lie in the list
enough : (count : ℕ) (list : List Relay) → length (bag_of count list) ≡ count → count ≤ length list
enough zero list e = omega arith
enough (suc count) [] e = absurd (omega (arith, e))
enough (suc count) (x ∷ list) e = let rest = enough count list (omega (arith, e)) in omega (arith, rest)

one_fewer : (bag : List Held) (index : ℕ) → index < length bag → suc (length (remove_at bag index)) ≡ length bag
unfolding remove_at
one_fewer [] index h = absurd (omega (arith, h))
one_fewer (x ∷ bag) zero h = refl
one_fewer (x ∷ bag) (suc index) h = ap suc (one_fewer bag index (omega (arith, h)))

-- what is stored of records that begin with a bag
stored_of : (bag : List Held) (n : ℕ) (left list : List Relay) (ws after : List ℕ) → length bag ≡ n → relays_of left ≡ over bag list → Stores left n ws after
    → after ≡ bag_codec.enc bag ws
stored_of bag n left list ws after many e stored = stored ∙ ap (λ (m : ℕ). bag_codec.enc (bag_of m left) ws) (sym many) ∙ ap
    (λ (l : List Held). bag_codec.enc l ws) (bag_over bag left list e)

module _ (part : List ℕ) (before list : List Relay) (count : ℕ) (table : IsTable relay_words max_relays (words part) (length part))
    (loaded : Loads (words part) before count list) where
  abbrev ws : List ℕ
  ws = words part

  abbrev bag : List Held
  bag = bag_of count list

  whole : length ws ≡ bag_words
  whole = let size = table.size in length_words part ∙ omega arith

  same : bag ≡ bag_codec.dec ws
  same = ap (λ (m : ℕ). bag_of m list) loaded.number ∙ bag_over (bag_codec.dec ws) list before loaded.records

  many : length bag ≡ count
  many = ap length same ∙ sym loaded.number

  few : count ≤ max_relays
  few = let held = held_count ws whole table.few in let most = table.few in omega (arith, loaded.number, held, most)

  inside : (index : ℕ) → index < count → is_within index count list ≡ true
  inside index small = both (ltb index count) (leb count (length list)) (lt-ltb index count small) (le-leb count (length list) (enough count list many))

  -- the relay at an index is gone, and the records are stored
  gone : (index : ℕ) (left : List Relay) (after : List ℕ) → index < count → relays_of left ≡ cond (is_within index count list) (without index count list)
      (relays_of list) → Stores left (count - 1) ws after
      → after ≡ change bag_codec (λ l. remove_at l index) ws
  gone index left after small e stored =
      stored_of (remove_at bag index) (count - 1) left list ws after
      (let fewer = one_fewer bag index (omega (arith, many, small)) in omega (arith, fewer, many)) (rw (inside index small) at e) stored
      ∙ ap (λ (l : List Held). bag_codec.enc (remove_at l index) ws) same

  pub as_on_words : AsOnWords ws list count
  unfolding first_no
  as_on_words = record {
    loads = same;
    stores = λ after stored. ap bag_codec.dec (stored ∙ table_is relay_row max_relays bag ws (omega (arith, many, few)))
        ∙ typed_back relay_exact max_relays ws whole bag;
    sends = λ relay code left after small there said stored.
        let room = both (ltb count (length list)) (ltb count max_relays) (lt-ltb count (length list) there) (lt-ltb count max_relays small) in (
          rw room at said.number,
          stored_of (bag ++ relay_of relay ∷ []) (suc count) left list ws after (length-append bag (relay_of relay ∷ []) ∙ omega (arith, many))
              (rw room at said.records) stored
              ∙ ap (λ (l : List Held). bag_codec.enc (l ++ relay_of relay ∷ []) ws) same,
        );
    drops = λ index code left after small said stored. (rw (inside index small) at said.number, gone index left after small said.records stored);
    delivers = λ index code relay left after small said stored. (
      rw (inside index small) at said.number,
      rw (inside index small) at said.given ∙ ap (λ (l : List Held). get_or l index blank_relay) same,
      gone index left after small said.records stored,
    );
  }
