-- Rows of a table, one after the other: code goes from the last to the first, the test from the first to the last.
use mathlib.Core.Path.{◌≡◌, refl, sym, ap, subst, ◌∙◌}
use mathlib.Core.List.{List, [], ◌∷◌}
use mathlib.Core.Bool.{Bool, true, false}
use Prim.Native.Nat.{ℕ, zero, suc, ◌+◌, ◌*◌, ◌≤◌, ◌<◌}
use native.Mathlib.Numerals.{add-one}
use native.Mathlib.Omega.{arith}
use lib.Dec.{ltb, leb}
use lib.ListN.{length, drop, get_or}
use lib.Seq.{get_or-drop}
use borrow.Author.Tests.{lt-leb, le-leb, le-ltb, lt-ltb, ltb-true, leb-true}
use Rattle.lists.specs.Tests.{◌and◌, every}
use Rattle.lists.specs.Runs.{nth_run}
use Rattle.lists.specs.Rows.{table_dec}
use Rattle.lists.proofs.Tests.{by_eq, and_l, and_r, both, same_test, no_first, no_second, yes_first}
use Rattle.lists.proofs.Runs.{run_at}
use Rattle.lists.proofs.Rows.{length_rows, rows_from, rows_past}
use Rattle.rules.specs.declared.settings.Settings.{Settings}
use Rattle.rules.specs.Numbers.{block_count}
use Rattle.rules.specs.Entries.{Entry, entry, ascending}
use Rattle.rules.specs.Sound.{sound_entry, sound_entries, sound_table}
use Rattle.layout.specs.Contents.{entry_row}
use Rattle.layout.specs.Layout.{entries_codec}
use Rattle.row_checks.specs.declared.rows.Whose.{Whose}
use Rattle.row_checks.specs.declared.rows.Whose.TheVariants.{Bucket, Proxy, Anyone}
use Rattle.row_checks.specs.Rows.{key_below, floor_after, ceiling_below, belongs_to, entry_fits, rows_good, first_entries, table_sound}

-- key 0 stands nowhere: no brick has id 0
pub zero_not_below : (bounds : List ℕ) → get_or bounds 0 0 ≡ 0 → key_below bounds 0 ≡ false
unfolding key_below
zero_not_below bounds e = rw e

-- the words of an entry in a table
pub entry_at : (ws : List ℕ) (i : ℕ) → entry_row.read (nth_run 2 i (drop 1 ws)) ≡ entry (get_or ws (1 + 2 * i) 0) (get_or ws (2 + 2 * i) 0)
entry_at ws i =
    let one : get_or (nth_run 2 i (drop 1 ws)) 0 0 ≡ get_or ws (1 + 2 * i) 0 =
    run_at (i * 2) 2 0 (drop 1 ws) (omega arith) ∙ get_or-drop 1 ws (i * 2 + 0) 0 ∙ ap (λ (k : ℕ). get_or ws k 0) (omega arith) in
    let two : get_or (nth_run 2 i (drop 1 ws)) 1 0 ≡ get_or ws (2 + 2 * i) 0 =
    run_at (i * 2) 2 1 (drop 1 ws) (omega arith) ∙ get_or-drop 1 ws (i * 2 + 1) 0 ∙ ap (λ (k : ℕ). get_or ws k 0) (omega arith) in
    rw (one, two)

-- ---- a block, and the one after it in its table
module _ (b n : ℕ) where
  pub below_ceiling : (whose : Whose) → floor_after whose b ≤ n → b < block_count → b < ceiling_below whose n
  unfolding floor_after ceiling_below
  below_ceiling (Bucket g) l h = omega arith
  below_ceiling (Proxy p) l h = omega arith
  below_ceiling Anyone l h = h

  above_floor : (whose : Whose) → b < ceiling_below whose n → floor_after whose b ≤ n
  unfolding floor_after ceiling_below
  above_floor (Bucket g) h = omega arith
  above_floor (Proxy p) h = omega arith
  above_floor Anyone h = omega arith

  pub ceiling_range : (whose : Whose) → b < block_count → ceiling_below whose b ≤ block_count
  unfolding ceiling_below
  ceiling_range (Bucket g) h = omega arith
  ceiling_range (Proxy p) h = omega arith
  ceiling_range Anyone h = omega arith

module _ (c : Settings) (good : ℕ → Bool) (whose : Whose) (ws : List ℕ) where
  -- row i
  abbrev row_at : ℕ → Entry
  row_at i = entry (get_or ws (1 + 2 * i) 0) (get_or ws (2 + 2 * i) 0)

  -- the first i rows, from the last to the first
  unfoldable pub rows_under : ℕ → ℕ → Bool
  rows_under ceiling zero = true
  rows_under ceiling (suc i) =
      ltb (row_at i).block ceiling and entry_fits c good whose (row_at i) and rows_under (ceiling_below whose (row_at i).block) i

  pub under_none : (ceiling : ℕ) → rows_under ceiling 0 ≡ true
  unfolding rows_under
  under_none ceiling = refl

  module _ (ceiling i block key : ℕ) (eb : block ≡ get_or ws (1 + 2 * i) 0) (ek : key ≡ get_or ws (2 + 2 * i) 0) where
    pub under_high : ceiling ≤ block → rows_under ceiling (suc i) ≡ false
    unfolding rows_under
    under_high l = no_first _ _ (no_first _ _ (rw (← eb) (le-ltb block ceiling l)))

    pub under_bad : entry_fits c good whose (entry block key) ≡ false → rows_under ceiling (suc i) ≡ false
    unfolding rows_under
    under_bad n = no_first _ _ (no_second _ _ (rw (← eb, ← ek) n))

    pub under_next : block < ceiling → entry_fits c good whose (entry block key) ≡ true → rows_under ceiling (suc i) ≡ rows_under (ceiling_below whose block) i
    unfolding rows_under
    under_next l y = rw (← eb, ← ek) (yes_first _ _ (both _ _ (lt-ltb block ceiling l) y))

  -- the least block that row i may have
  abbrev floor_at : ℕ → ℕ
  floor_at zero = 0
  floor_at (suc i) = floor_after whose (row_at i).block

  abbrev Each : ℕ → Type 0
  Each i = (floor_at i ≤ (row_at i).block) × (sound_entry good (belongs_to c whose) (row_at i) ≡ true)

  in_range : (i : ℕ) → Each i → (row_at i).block < block_count
  unfolding sound_entry
  in_range i e = ltb-true _ _ (and_r _ _ (and_l _ _ e.1))

  fits : (i : ℕ) → Each i → entry_fits c good whose (row_at i) ≡ true
  unfolding sound_entry entry_fits
  fits i e = both _ _ (and_l _ _ (and_l _ _ e.1)) (and_r _ _ e.1)

  good_if : (i : ℕ) → (row_at i).block < block_count → entry_fits c good whose (row_at i) ≡ true → sound_entry good (belongs_to c whose) (row_at i) ≡ true
  unfolding sound_entry entry_fits
  good_if i l y = both _ _ (both _ _ (and_l _ _ y) (lt-ltb _ _ l)) (and_r _ _ y)

  under_of : (i ceiling : ℕ) → ((j : ℕ) → j < i → Each j) → ((j : ℕ) → suc j ≡ i → (row_at j).block < ceiling) → rows_under ceiling i ≡ true
  unfolding rows_under
  under_of zero ceiling e h = refl
  under_of (suc i) ceiling e h =
      both _ _ (both _ _ (lt-ltb _ _ (h i refl)) (fits i (e i (omega arith))))
      (under_of i (ceiling_below whose (row_at i).block) (λ j l. e j (omega arith))
      (λ j q. below_ceiling (row_at j).block (row_at i).block whose (subst (λ (k : ℕ). floor_at k ≤ (row_at i).block) (sym q) (e i (omega arith)).0)
      (in_range j (e j (omega arith)))))

  floor_of : (i n : ℕ) → rows_under (ceiling_below whose n) i ≡ true → floor_at i ≤ n
  unfolding rows_under
  floor_of zero n y = omega arith
  floor_of (suc i) n y = above_floor _ n whose (ltb-true _ _ (and_l _ _ (and_l _ _ y)))

  of_under : (i ceiling : ℕ) → ceiling ≤ block_count → rows_under ceiling i ≡ true → (j : ℕ) → j < i → Each j
  unfolding rows_under
  of_under zero ceiling h y j l = absurd (omega arith)
  of_under (suc i) ceiling h y j l =
      let low : (row_at i).block < ceiling = ltb-true _ _ (and_l _ _ (and_l _ _ y)) in
      let range : (row_at i).block < block_count = omega arith in
      by_eq j i (λ _ e. rw e (floor_of i _ (and_r _ _ y), good_if i range (and_r _ _ (and_l _ _ y))))
      (λ _ e. of_under i _ (ceiling_range _ 0 whose range) (and_r _ _ y) j (omega arith))

  module _ (n : ℕ) where
    -- what is left to test from row i on, from the first to the last
    unfoldable rows_left : ℕ → ℕ → Bool
    rows_left floor i = rows_good c good whose floor (drop i (first_entries n ws))

    turn : (floor i : ℕ) → i < n
        → rows_left floor i ≡ (leb floor (row_at i).block and sound_entry good (belongs_to c whose) (row_at i) and rows_left (floor_after whose (row_at i).block) (i + 1))
    unfolding rows_left rows_good
    turn floor i h =
        ap (rows_good c good whose floor) (rows_from 2 entry_row.read n i (drop 1 ws) h)
        ∙ ap (λ (e : Entry). rows_good c good whose floor (e ∷ drop (i + 1) (first_entries n ws))) (entry_at ws i)

    forth : rows_good c good whose 0 (first_entries n ws) ≡ true → (i : ℕ) → i ≤ n → rows_left (floor_at i) i ≡ true
    unfolding rows_left
    forth y zero h = y
    forth y (suc i) h = rw (add-one i) at (and_r _ _ (sym (turn (floor_at i) i (omega arith)) ∙ forth y i (omega arith)))

    each_of : rows_good c good whose 0 (first_entries n ws) ≡ true → (i : ℕ) → i < n → Each i
    each_of y i h =
        let z = and_l _ _ (sym (turn (floor_at i) i h) ∙ forth y i (omega arith)) in
        (leb-true _ _ (and_l _ _ z), and_r _ _ z)

    back : ((j : ℕ) → j < n → Each j) → (d i : ℕ) → i + d ≡ n → rows_left (floor_at i) i ≡ true
    unfolding rows_left rows_good
    back e zero i q = let z : i ≡ n = omega arith in rw (z, rows_past 2 entry_row.read n (drop 1 ws))
    back e (suc d) i q =
        let h : i < n = omega arith in
        turn (floor_at i) i h ∙ both _ _ (both _ _ (le-leb _ _ (e i h).0) (e i h).1) (rw (add-one i) (back e d (suc i) (omega arith)))

    pub rows_are : rows_under block_count n ≡ rows_good c good whose 0 (first_entries n ws)
    unfolding rows_left
    rows_are =
        same_test _ _ (λ y. back (of_under n block_count (omega arith) y) n 0 (omega arith))
        (λ y. under_of n block_count (each_of y) (λ j q. in_range j (each_of y j (omega arith))))

-- ---- row by row, and the rules' test of a table
and_four : (a b x y : Bool) → (a and b and (x and y)) ≡ (a and x and (b and y))
unfolding ◌and◌
and_four true true x y = refl
and_four true false x y = sym (no_second x false refl)
and_four false b x y = refl

and_swap : (a b x : Bool) → (a and (b and x)) ≡ (b and (a and x))
unfolding ◌and◌
and_swap true true x = refl
and_swap true false x = refl
and_swap false true x = refl
and_swap false false x = refl

module _ (c : Settings) (good : ℕ → Bool) where
  rows_ascending : (whose : Whose) → ((b : ℕ) → floor_after whose b ≡ suc b) → (floor : ℕ) (l : List Entry)
      → rows_good c good whose floor l ≡ (ascending floor l and every (sound_entry good (belongs_to c whose)) l)
  unfolding rows_good ascending every ◌and◌
  rows_ascending whose f floor [] = refl
  rows_ascending whose f floor (e ∷ l) =
      let mine = sound_entry good (belongs_to c whose) in
      ap (λ (b : Bool). leb floor e.block and mine e and b)
      (ap (λ (n : ℕ). rows_good c good whose n l) (f e.block) ∙ rows_ascending whose f (suc e.block) l)
      ∙ and_four (leb floor e.block) (mine e) (ascending (suc e.block) l) (every mine l)

  rows_any : (l : List Entry) → rows_good c good Anyone 0 l ≡ every (sound_entry good (belongs_to c Anyone)) l
  unfolding rows_good every floor_after
  rows_any [] = refl
  rows_any (e ∷ l) =
      let mine = sound_entry good (belongs_to c Anyone) in
      ap (λ (b : Bool). b and rows_good c good Anyone 0 l) (yes_first (leb 0 e.block) (mine e) (le-leb 0 e.block (omega arith)))
      ∙ ap (λ (b : Bool). mine e and b) (rows_any l)

  in_order : (whose : Whose) → ((b : ℕ) → floor_after whose b ≡ suc b) → (most : ℕ) (l : List Entry)
      → (leb (length l) most and rows_good c good whose 0 l) ≡ sound_table good (belongs_to c whose) most l
  unfolding sound_table sound_entries
  in_order whose f most l =
      ap (λ (b : Bool). leb (length l) most and b) (rows_ascending whose f 0 l)
      ∙ and_swap (leb (length l) most) (ascending 0 l) (every (sound_entry good (belongs_to c whose)) l)

  rows_sound : (whose : Whose) (most : ℕ) (l : List Entry) → (leb (length l) most and rows_good c good whose 0 l) ≡ table_sound c good whose most l
  unfolding belongs_to floor_after sound_entries
  rows_sound (Bucket g) most l = in_order (Bucket g) (λ b. refl) most l
  rows_sound (Proxy p) most l = in_order (Proxy p) (λ b. refl) most l
  rows_sound Anyone most l = ap (λ (b : Bool). leb (length l) most and b) (rows_any l)

-- ---- a whole table
module _ (c : Settings) (good : ℕ → Bool) (whose : Whose) (most : ℕ) (ws : List ℕ) (n : ℕ) (e : n ≡ get_or ws 0 0) where
  count : length ((entries_codec most).dec ws) ≡ n
  unfolding table_dec
  count = length_rows 2 entry_row.read (get_or ws 0 0) (drop 1 ws) ∙ sym e

  pub table_over : most < n → table_sound c good whose most ((entries_codec most).dec ws) ≡ false
  table_over l = sym (rows_sound c good whose most ((entries_codec most).dec ws)) ∙ no_first _ _ (rw count (lt-leb n most l))

  pub table_rows : n ≤ most → table_sound c good whose most ((entries_codec most).dec ws) ≡ rows_good c good whose 0 (first_entries n ws)
  unfolding table_dec
  table_rows l =
      sym (rows_sound c good whose most ((entries_codec most).dec ws)) ∙ yes_first _ _ (rw count (le-leb n most l)) ∙ rw e
