-- Keys against a bound for each id.
use mathlib.Core.Path.{◌≡◌, refl, sym, ap, subst, ◌∙◌, fun_ext}
use mathlib.Core.List.{List}
use mathlib.Core.Bool.{true, false, not}
use Prim.Native.Nat.{ℕ, zero, suc, ◌<◌}
use native.Mathlib.Omega.{arith}
use lib.Dec.{ltb, leb}
use lib.ListN.{length, get_or, replicate}
use borrow.Author.Tests.{lt-ltb, le-ltb}
use Rattle.lists.specs.Tests.{◌and◌, ◌or◌}
use Rattle.lists.proofs.Tests.{by, by_eq, no_first, yes_first}
use Rattle.rules.specs.declared.settings.Settings.{Settings}
use Rattle.rules.specs.Numbers.{sequences, home_of, sequence_of}
use Rattle.rules.specs.Sound.{sound_key}
use Rattle.layout.specs.Places.{by_id}
use Rattle.layout.specs.Layout.{settings_of, store_words, place_words, place_part, place_at, next_at, given_at}
use Rattle.layout.specs.Store.{decode}
use Rattle.layout.proofs.Parts.{given_read, id_read, present_column, next_column}
use Rattle.layout.proofs.Places.{of_same}
use Rattle.row_checks.specs.Rows.{key_below}
use Rattle.store_check.specs.Places.{id_at}
use Rattle.store_check.specs.Bounds.{was_given, next_in, Given, Filled}
use Rattle.lists.proofs.Runs.{run_at}

was : (n i : ℕ) → (ltb 0 i and leb i n) ≡ was_given n i
unfolding was_given
was n i = refl

-- no limit but 0 for id 0
pub zero_bound : (c : Settings) (ws none given bounds : List ℕ) (n p : ℕ) → ((i : ℕ) → get_or none i 0 ≡ 0) → Given n none given
    → Filled c n ws p given bounds → get_or bounds 0 0 ≡ 0
unfolding was_given ◌and◌
zero_bound c ws none given bounds n p ez g f = f.each 0 ∙ g.each 0 ∙ ez 0

pub zeros : (n i : ℕ) → get_or (replicate {A = ℕ} n 0) i 0 ≡ 0
zeros zero i = refl
zeros (suc n) zero = refl
zeros (suc n) (suc i) = zeros n i

-- columns by place with the same ids are seen alike
of_ids : {A : Type 0} (n : ℕ) (ids jds : ℕ → ℕ) (d : A) (f : ℕ → A) (i : ℕ) → ((p : ℕ) → p < n → ids p ≡ jds p) → by_id n ids d f i ≡ by_id n jds d f i
unfolding by_id
of_ids zero ids jds d f i e = refl
of_ids (suc n) ids jds d f zero e = refl
of_ids (suc n) ids jds d f (suc i) e = rw (e n (omega arith), of_ids n ids jds d f (suc i) (λ p l. e p (omega arith)))

-- a limit that is the next of a brick at a place, and all sequence numbers else
below_limit : (n : ℕ) (ids nexts : ℕ → ℕ) (i x : ℕ) → x < sequences
    → ltb x (by_id n ids sequences nexts i) ≡ (not (by_id n ids false (λ p. true) i) or ltb x (by_id n ids 0 nexts i))
unfolding by_id ◌or◌
below_limit zero ids nexts i x h = lt-ltb x sequences h
below_limit (suc n) ids nexts zero x h = lt-ltb x sequences h
below_limit (suc n) ids nexts (suc i) x h = by_eq (ids n) (suc i) (λ q e. rw q) (λ q e. rw q (below_limit n ids nexts (suc i) x h))

module _ (ws : List ℕ) (h : length ws ≡ store_words (settings_of ws)) where
  pub id_here : (p : ℕ) → p < (settings_of ws).places → (decode ws).ids p ≡ id_at (settings_of ws) ws p
  id_here p l =
      id_read ws h p l ∙ run_at (place_at (settings_of ws) p) (place_words (settings_of ws)) 0 ws (omega arith)
      ∙ ap (λ (k : ℕ). get_or ws k 0) (omega arith)

  -- bounds filled from a store's words are the rules' test of keys
  pub keys_bounded : (none given bounds : List ℕ) (n : ℕ) → n ≡ get_or ws given_at 0 → ((i : ℕ) → get_or none i 0 ≡ 0) → Given n none given
      → Filled (settings_of ws) n ws (settings_of ws).places given bounds → key_below bounds ≡ sound_key (decode ws)
  unfolding key_below sound_key
  keys_bounded none given bounds n en ez g f = fun_ext (λ k.
      let c = settings_of ws in
      let i : ℕ = home_of k in
      let x : ℕ = sequence_of k in
      let small : x < sequences = omega arith in
      let gs : (decode ws).given ≡ n = given_read ws h ∙ sym en in
      let test : (ltb 0 i and leb i (decode ws).given) ≡ was_given n i = rw gs (was n i) in
      let here : (decode ws).bricks.present i ≡ by_id c.places (id_at c ws) false (λ p. true) i =
      present_column ws h i ∙ of_ids c.places (decode ws).ids (id_at c ws) false (λ p. true) i id_here in
      let next : (decode ws).bricks.next i ≡ by_id c.places (id_at c ws) 0 (next_in c ws) i =
      next_column ws h i ∙ of_same c.places (decode ws).ids 0 (λ p. get_or (place_part c p ws) next_at 0) (next_in c ws) i
      (λ p l e o. run_at (place_at c p) (place_words c) next_at ws (omega arith))
      ∙ of_ids c.places (decode ws).ids (id_at c ws) 0 (next_in c ws) i id_here in
      by (was_given n i)
      (λ y. let old : get_or given i 0 ≡ sequences = g.each i ∙ rw y in
      let lim : get_or bounds i 0 ≡ by_id c.places (id_at c ws) sequences (next_in c ws) i =
      f.each i ∙ rw y (ap (λ (d : ℕ). by_id c.places (id_at c ws) d (next_in c ws) i) old) in
      ap (ltb x) lim ∙ below_limit c.places (id_at c ws) (next_in c ws) i x small
      ∙ sym (yes_first _ _ (test ∙ y) ∙ rw (here, next)))
      (λ q. let old : get_or given i 0 ≡ 0 = g.each i ∙ rw q (ez i) in
      let lim : get_or bounds i 0 ≡ 0 = f.each i ∙ rw q old in
      ap (ltb x) lim ∙ le-ltb x 0 (omega arith) ∙ sym (no_first _ _ (test ∙ q))))

-- the same where the settings have another name
module _ (ws : List ℕ) (c : Settings) (e : settings_of ws ≡ c) (none given bounds : List ℕ) (n : ℕ) (ez : (i : ℕ) → get_or none i 0 ≡ 0)
    (g : Given n none given) where
  pub keys_below : length ws ≡ store_words c → n ≡ get_or ws given_at 0 → Filled c n ws c.places given bounds → key_below bounds ≡ sound_key (decode ws)
  keys_below =
      subst (λ (c : Settings). length ws ≡ store_words c → n ≡ get_or ws given_at 0 → Filled c n ws c.places given bounds
      → key_below bounds ≡ sound_key (decode ws)) e (λ h en. keys_bounded ws h none given bounds n en ez g)
