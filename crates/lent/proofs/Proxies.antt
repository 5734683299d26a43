-- A proxy's part of a lent store: what is read there, what a change there leaves; and what is asked first of a proxy and a block.
use mathlib.Core.Path.{◌≡◌, refl, sym, ap, ◌∙◌}
use mathlib.Core.Bool.{true}
use mathlib.Core.List.{List, [], ◌++◌}
use Prim.Native.Nat.{ℕ, ◌+◌, ◌*◌, ◌-◌, ◌≤◌, ◌<◌}
use lib.ListN.{length, get_or, take, drop}
use borrow.Author.Tests.{lt-ltb, le-ltb, ltb-true, eq-eqb, ne_eqb}
use Rattle.lists.specs.Tests.{◌and◌}
use Rattle.lists.proofs.Columns.{upd_same, upd_other}
use Rattle.words.specs.Words.{words}
use Rattle.rules.specs.declared.settings.Settings.{Settings}
use Rattle.rules.specs.Limits.{proxies, max_items}
use Rattle.rules.specs.Numbers.{block_count, proxy_of}
use Rattle.rules.specs.Entries.{Entry, remove}
use Rattle.rules.specs.Maps.{item_goes}
use Rattle.rules.specs.Question.{first_no, belongs}
use Rattle.rules.proofs.Questions.{first_yes, first_stop, none_asked, all_yes}
use Rattle.codec.specs.Codec.{change}
use Rattle.layout.specs.Layout.{items_codec, proxy_at, items_at}
use Rattle.layout.specs.Store.{decode, render}
use Rattle.layout.proofs.Changes.{seen_word}
use Rattle.layout.proofs.Foci.{items_focus, known_focus}
use Rattle.lent.specs.Asks.{block_asks}
use Rattle.lent.specs.Parts.{CopyPart}
use Rattle.lent.specs.Stores.{StoreOf}
use Rattle.lent.proofs.Stores.{facts}
use Rattle.lent.proofs.Effects.{lent_value, effect}
use Rattle.lent.proofs.Parts.{copy_part}

-- ---- a proxy's items, lent
module _ (c : Settings) (bs : List ℕ) (v : StoreOf c bs) (p : ℕ) (h : p < proxies) (o e : ℕ) (eo : o ≡ 8 * (proxy_at c p + items_at))
    (ee : e ≡ o + 8 * items_codec.size) where
  pub items_part : length (take (e - o) (drop o bs)) ≡ 8 * items_codec.size → CopyPart max_items ((decode (words bs)).items p) (take (e - o) (drop o bs))
  items_part l =
      copy_part max_items ((decode (words bs)).items p) (take (e - o) (drop o bs)) l
      (lent_value c bs v (items_focus c p h) ((((refl, refl), refl), λ j l z. refl), refl) o e eo ee) ((facts c bs v).items p).room
      ((facts c bs v).items p).sorted

  pub item_gone : (block : ℕ) (part : List ℕ) → length part ≡ 8 * items_codec.size
      → words part ≡ change items_codec (λ l. remove l block) (words (take (e - o) (drop o bs)))
      → words (take o bs ++ (part ++ drop (e - o) (drop o bs))) ≡ render (item_goes (decode (words bs)) p block) (words bs)
  unfolding item_goes
  item_gone block part lp ep =
      let s = decode (words bs) in
      effect c bs v (items_focus c p h) (item_goes s p block) refl (
        (
          ((refl, refl), refl),
          λ j l z. ap (λ (i : List Entry). record { known = s.known j; items = i })
              (sym (upd_other s.items p j (remove (s.items p) block) z)),
        ),
        refl,
      )
      part o e eo ee lp (λ l. remove l block) (upd_same s.items p (remove (s.items p) block)) ep

-- ---- the known view
pub known_read : (c : Settings) (bs : List ℕ) → StoreOf c bs → (p : ℕ) → p < proxies → (decode (words bs)).known p ≡ get_or (words bs) (proxy_at c p) 0
known_read c bs v p h =
    rw v.same (seen_word (words bs) v.sound (known_focus _ p h) ((((refl, refl), refl), λ j l z. refl), refl))

-- ---- what is asked first of a proxy and a block
pub record OwnBlock (p b : ℕ) : Type 0 where
  pub proxy : p < proxies
  pub block : b < block_count
  pub own : belongs p b ≡ true

pub block_yes : (p b : ℕ) → first_no (block_asks p b) ≡ 0 → OwnBlock p b
unfolding ◌and◌
block_yes p b e =
    let y = all_yes (block_asks p b) refl e in
    record { proxy = search ltb-true; block = search ltb-true; own = search }

-- one after the other
module _ (p b : ℕ) where
  pub no_proxy : proxies ≤ p → 3 ≡ first_no (block_asks p b)
  no_proxy h = sym (first_stop 3 _ (le-ltb p proxies h))

  module _ (h : p < proxies) where
    pub no_block : block_count ≤ b → 3 ≡ first_no (block_asks p b)
    no_block i = sym (first_yes 3 _ (lt-ltb p proxies h) ∙ first_stop 3 _ (le-ltb b block_count i))

    module _ (i : b < block_count) where
      pub is_own : proxy_of b ≡ p → 0 ≡ first_no (block_asks p b)
      is_own e = sym (first_yes 3 _ (lt-ltb p proxies h) ∙ first_yes 3 _ (lt-ltb b block_count i) ∙ first_yes 4 [] (eq-eqb (proxy_of b) p e) ∙ none_asked)

      pub not_own : (proxy_of b ≡ p → ⊥) → 4 ≡ first_no (block_asks p b)
      not_own n = sym (first_yes 3 _ (lt-ltb p proxies h) ∙ first_yes 3 _ (lt-ltb b block_count i) ∙ first_stop 4 [] (ne_eqb (proxy_of b) p n))
