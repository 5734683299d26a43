-- Stretches of rows of a table: blocks of one run.
use mathlib.Core.Path.{◌≡◌, refl, sym, ap, ◌∙◌}
use mathlib.Core.List.{List}
use mathlib.Core.Bool.{Bool, true}
use Prim.Native.Nat.{ℕ, zero, suc, ◌+◌, ◌*◌, ◌-◌, ◌/◌, ◌^◌, ◌≤◌, ◌<◌}
use native.Mathlib.Omega.{arith}
use Rattle.std.proofs.Common.{Option, Some, None}
use Rattle.std.specs.Option.{MatchOption}
use Rattle.lists.proofs.Tests.{by_eq, and_l, both}
use Rattle.rules.specs.declared.settings.Settings.{Settings}
use Rattle.rules.specs.Numbers.{block_count, run_blocks, proxy_of, bucket_of}
use Rattle.rules.specs.Entries.{entry}
use Rattle.rules.specs.Sound.{in_bucket}
use Rattle.row_checks.specs.declared.rows.Whose.{Whose}
use Rattle.row_checks.specs.declared.rows.Whose.TheVariants.{Bucket, Proxy, Anyone}
use Rattle.row_checks.specs.Rows.{key_below, belongs_to, floor_after, ceiling_below, entry_fits}
use Rattle.row_checks.specs.Stretches.{block_at, entry_key_at, RowUnder, Stretch}
use Rattle.row_checks.proofs.RowLaws.{rows_under, under_next, below_ceiling}

-- what is known of a value that may be there, said anew
pub if_there : {A : Type 0} {P Q : A → Type 0} (o : Option A) → MatchOption o (Unit {0}) P → ((x : A) → P x → Q x) → MatchOption o (Unit {0}) Q
if_there None m f = m
if_there (Some x) m f = f x m

-- ---- blocks of one run
pub same_run : (c : Settings) (whose : Whose) (a b : ℕ) → a / run_blocks ≡ b / run_blocks → belongs_to c whose a ≡ belongs_to c whose b
unfolding belongs_to in_bucket bucket_of proxy_of
same_run c (Bucket g) a b e = rw e
same_run c (Proxy p) a b e = let q : a / 2 ^ 49 ≡ b / 2 ^ 49 = omega arith in rw q
same_run c Anyone a b e = refl

-- ---- down from a row, one at a time
module _ (bounds ws : List ℕ) (floor i : ℕ) where
  stretch_turn : (j k next block : ℕ) → suc k ≡ j → Stretch bounds ws floor i j next → floor < block → RowUnder bounds ws k next block
      → Stretch bounds ws floor i k block
  stretch_turn j k next block q v h u =
      let down : block_at ws k < block_at ws j = omega (arith, v.here, u.here, u.below) in
      record {
        inside = omega (arith, v.inside);
        here = u.here;
        under = omega (arith, v.under, u.below);
        rises = λ m a b. by_eq m k (λ _ e. rw (e, q) down) (λ _ e. v.rises m (omega arith) b);
        range = λ m a b. by_eq m k (λ _ e. rw e (omega (arith, u.here), omega (arith, v.here, v.under, down))) (λ _ e. v.range m (omega arith) b);
        keys = λ m a b. by_eq m k (λ _ e. rw e u.key) (λ _ e. v.keys m (omega arith) b);
      }

  -- four rows, each below the one before it: the lowest is above the floor, so all are
  pub stretch_four : (j next a1 b1 a2 b2 a3 b3 a4 b4 : ℕ) → suc a1 ≡ j → suc a2 ≡ a1 → suc a3 ≡ a2 → suc a4 ≡ a3 → floor < b4
      → RowUnder bounds ws a1 next b1 → RowUnder bounds ws a2 b1 b2 → RowUnder bounds ws a3 b2 b3 → RowUnder bounds ws a4 b3 b4
      → Stretch bounds ws floor i j next → Stretch bounds ws floor i a4 b4
  stretch_four j next a1 b1 a2 b2 a3 b3 a4 b4 e1 e2 e3 e4 h u1 u2 u3 u4 v =
      let v1 = stretch_turn j a1 next b1 e1 v (omega (arith, u4.below, u3.below, u2.below)) u1 in
      let v2 = stretch_turn a1 a2 b1 b2 e2 v1 (omega (arith, u4.below, u3.below)) u2 in
      let v3 = stretch_turn a2 a3 b2 b3 e3 v2 (omega (arith, u4.below)) u3 in
      stretch_turn a3 a4 b3 b4 e4 v3 h u4

-- ---- the rows of a stretch need no test
module _ (c : Settings) (bounds : List ℕ) (whose : Whose) (ws : List ℕ) (floor i r block top : ℕ) (v : Stretch bounds ws floor i r block)
    (e : top ≡ block_at ws i) (f : floor ≡ top / run_blocks * run_blocks) (in_range : top < block_count) (key : ℕ)
    (y : entry_fits c (key_below bounds) whose (entry top key) ≡ true) where
  abbrev good : ℕ → Bool
  good = key_below bounds

  lower : (b n : ℕ) → (w : Whose) → b < n → floor_after w b ≤ n
  unfolding floor_after
  lower b n (Bucket g) h = omega arith
  lower b n (Proxy p) h = omega arith
  lower b n Anyone h = omega arith

  fits_there : (k : ℕ) → r ≤ k → k < i → entry_fits c good whose (entry (block_at ws k) (entry_key_at ws k)) ≡ true
  unfolding entry_fits
  fits_there k a b =
      let q : block_at ws k / run_blocks ≡ top / run_blocks = omega (arith, e, f, (v.range k a b).0, (v.range k a b).1) in
      both _ _ (same_run c whose _ top q ∙ and_l _ _ y) (v.keys k a b)

  down_to : (d j : ℕ) → j + d ≡ i → r ≤ j
      → rows_under c good whose ws (ceiling_below whose top) i ≡ rows_under c good whose ws (ceiling_below whose (block_at ws j)) j
  down_to zero j q l = let z : i ≡ j = omega arith in rw (e, z)
  down_to (suc d) j q l =
      let b : j < i = omega arith in
      down_to d (suc j) (omega arith) (omega arith)
      ∙ under_next c good whose ws _ j (block_at ws j) (entry_key_at ws j) refl refl
      (below_ceiling (block_at ws j) (block_at ws (suc j)) whose (lower _ _ whose (v.rises j l b)) (omega (arith, e, (v.range j l b).1)))
      (fits_there j l b)

  pub stretch_under : rows_under c good whose ws (ceiling_below whose top) i ≡ rows_under c good whose ws (ceiling_below whose block) r
  stretch_under =
      down_to (i - r) r (omega (arith, v.inside)) (omega arith)
      ∙ ap (λ (b : ℕ). rows_under c good whose ws (ceiling_below whose b) r) (sym v.here)
