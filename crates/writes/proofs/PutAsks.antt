-- The questions of put, one after the other.
use mathlib.Core.Path.{◌≡◌, refl, sym, ap, subst, ◌∙◌}
use mathlib.Core.List.{List}
use mathlib.Core.Bool.{Bool, true, false, not}
use Prim.Native.Nat.{ℕ, ◌+◌, ◌≤◌, ◌<◌}
use lib.Dec.{ltb, leb}
use lib.ListN.{length, get_or, drop}
use borrow.Author.Tests.{ltb-true, lt-ltb, le-ltb, eq-eqb, ne_eqb}
use Rattle.lists.specs.Tests.{◌and◌, ◌or◌}
use Rattle.lists.proofs.Tests.{both, no_first}
use Rattle.lists.proofs.Runs.{below_of, every_below}
use Rattle.words.specs.Words.{words}
use Rattle.rules.specs.declared.settings.Settings.{Settings}
use Rattle.rules.specs.Limits.{proxies, max_items, ceiling_step}
use Rattle.rules.specs.Numbers.{sequences, is_data}
use Rattle.rules.specs.Event.{Event}
use Rattle.rules.specs.State.{State}
use Rattle.rules.specs.Derived.{up_member}
use Rattle.rules.specs.Question.{Question, first_no, AllYes, is_proxy, is_block, has_item}
use Rattle.rules.specs.Writes.{put_asks}
use Rattle.rules.specs.Step.{rule}
use Rattle.rules.proofs.Questions.{first_yes, first_stop, first_same, first_past, none_asked, all_yes, first_more}
use Rattle.layout.specs.Store.{decode}
use Rattle.std.specs.Prelude.{Ok, Err}
use Rattle.rules.specs.declared.refusal.Refusal.{Refusal}
use Rattle.rules.specs.Refusals.{number}
use Rattle.rules.proofs.Refusals.{refuses_there}
use Rattle.lent.specs.Performs.{Performs}
use Rattle.lent.specs.Asks.{block_asks}
use Rattle.lent.specs.Stores.{StoreOf}
use Rattle.lent.proofs.Performs.{accepts, refused}
use Rattle.lent.proofs.Stores.{settings_are}
use Rattle.writes.specs.Puts.{field_asks, store_asks, Put}

-- ---- of the fields
data_long : (size : ℕ) (bytes : List ℕ) → (length bytes ≡ size → ⊥) → is_data size bytes ≡ false
unfolding is_data
data_long size bytes h = no_first _ _ (ne_eqb (length bytes) size h)

data_fits : (size : ℕ) (bytes : List ℕ) → length bytes ≡ size → ((i : ℕ) → get_or bytes i 0 < 256) → is_data size bytes ≡ true
unfolding is_data
data_fits size bytes h b = both _ _ (eq-eqb (length bytes) size h) (every_below (below_of 256 bytes b))

-- questions of one number may be asked in any order
module _ (c : Settings) (proxy place block : ℕ) (bytes : List ℕ) where
  pub no_place : c.places ≤ place → 3 ≡ first_no (field_asks c proxy place block bytes)
  no_place h = sym (first_same 3 (is_proxy proxy) _ (first_stop 3 _ (le-ltb place c.places h)))

  pub no_data : (length bytes ≡ c.size → ⊥) → 3 ≡ first_no (field_asks c proxy place block bytes)
  no_data h =
      let no = first_stop 3 _ (data_long c.size bytes h) in
      sym (first_same 3 (is_proxy proxy) _ (first_same 3 (ltb place c.places) _ (first_same 3 (is_block block) _ no)))

  pub of_block : place < c.places → length bytes ≡ c.size → ((i : ℕ) → get_or bytes i 0 < 256)
      → first_no (block_asks proxy block) ≡ first_no (field_asks c proxy place block bytes)
  of_block h long small =
      sym (first_past 3 (is_proxy proxy) _ _ (first_yes 3 _ (lt-ltb place c.places h)
      ∙ first_past 3 (is_block block) _ _ (first_yes 3 _ (data_fits c.size bytes long small))))

-- ---- of the store
module _ (s : State) (proxy place block : ℕ) where
  abbrev asked : ℕ
  asked = first_no (store_asks s proxy place block)

  pub no_member : up_member s (s.ids place) ≡ false → 6 ≡ asked
  no_member n = sym (first_stop 6 _ n)

  module _ (live : up_member s (s.ids place) ≡ true) where
    pub item_there : has_item s proxy block ≡ true → 9 ≡ asked
    item_there y = sym (first_yes 6 _ live ∙ first_stop 9 _ (ap not y))

    module _ (none : has_item s proxy block ≡ false) where
      pub items_full : max_items ≤ length (s.items proxy) → 10 ≡ asked
      items_full h = sym (first_yes 6 _ live ∙ first_yes 9 _ (ap not none) ∙ first_stop 10 _ (le-ltb (length (s.items proxy)) max_items h))

      module _ (few : length (s.items proxy) < max_items) where
        past_items : asked ≡ first_no (drop 3 (store_asks s proxy place block))
        past_items = first_yes 6 _ live ∙ first_yes 9 _ (ap not none) ∙ first_yes 10 _ (lt-ltb (length (s.items proxy)) max_items few)

        pub log_full : s.settings.chunks ≤ length (s.bricks.log (s.ids place)) → 10 ≡ asked
        log_full h = sym (past_items ∙ first_stop 10 _ (le-ltb (length (s.bricks.log (s.ids place))) s.settings.chunks h))

        module _ (room : length (s.bricks.log (s.ids place)) < s.settings.chunks) {x : Bool}
            (is : x ≡ (ltb (s.bricks.next (s.ids place)) (s.bricks.ceiling (s.ids place)) or leb (s.bricks.ceiling (s.ids place) + ceiling_step) sequences)) where
          past_log : asked ≡ first_no (drop 4 (store_asks s proxy place block))
          past_log = past_items ∙ first_yes 10 _ (lt-ltb (length (s.bricks.log (s.ids place))) s.settings.chunks room)

          pub number_left : x ≡ true → 0 ≡ asked
          number_left y = sym (past_log ∙ first_yes 12 _ (sym is ∙ y) ∙ none_asked)

          pub no_number : x ≡ false → 12 ≡ asked
          no_number n = sym (past_log ∙ first_stop 12 _ (sym is ∙ n))

-- ---- both groups
module _ {c : Settings} {bs : List ℕ} (so : StoreOf c bs) (proxy place block : ℕ) (bytes : List ℕ) where
  abbrev event : Event
  event = Event.put proxy place block bytes

  abbrev of_fields : Settings → List Question
  of_fields d = field_asks d proxy place block bytes

  abbrev of_store : List Question
  of_store = store_asks (decode (words bs)) proxy place block

  abbrev state : State
  state = decode (words bs)

  abbrev of_all : List Question
  of_all = put_asks state proxy place block bytes

  same_fields : first_no (of_fields c) ≡ first_no (of_fields state.settings)
  same_fields = ap (λ (d : Settings). first_no (of_fields d)) (sym (settings_are c bs so))

  pub refused_fields : (r : Refusal) → number r ≡ first_no (of_fields c) → Performs event (words bs) (Err r) (words bs)
  unfolding rule
  refused_fields r e = refused event (words bs) so.sound r (refuses_there (of_fields state.settings) of_store r (e ∙ same_fields))

  module _ (none : first_no (of_fields c) ≡ 0) where
    -- the fields are in range
    pub in_range : (proxy < proxies) × (place < c.places)
    unfolding ◌and◌
    in_range = let y = all_yes (of_fields c) refl none in (ltb-true proxy proxies y.0, ltb-true place c.places y.1.0)

    rest : first_no of_all ≡ first_no of_store
    unfolding ◌and◌
    rest = first_more (of_fields state.settings) of_store refl (sym same_fields ∙ none)

    pub refused_store : (r : Refusal) → number r ≡ first_no of_store → Performs event (words bs) (Err r) (words bs)
    unfolding rule
    refused_store r e = refused event (words bs) so.sound r (e ∙ sym rest)

    pub all_asked : first_no of_store ≡ 0 → AllYes of_all
    unfolding ◌and◌
    all_asked e = all_yes of_all refl (rest ∙ e)

  pub accepted_put : AllYes of_all → (key : ℕ) (after : List ℕ)
      → Put proxy place block bytes (words bs) key after → Performs event (words bs) (Ok key) after
  unfolding rule
  accepted_put y key after p =
      subst (λ (k : ℕ). Performs event (words bs) (Ok k) after) (sym p.given)
      (accepts event (words bs) after y p.leaves)
