-- The settings line: refused, or the store is formatted.
use mathlib.Core.Path.{◌≡◌, refl, sym, ap, subst, ◌∙◌}
use mathlib.Core.List.{List}
use mathlib.Core.Bool.{true, false}
use Prim.Native.Nat.{ℕ, ◌≤◌, ◌<◌}
use native.Mathlib.Omega.{arith}
use lib.ListN.{length, take}
use borrow.Author.Tests.{le-leb, lt-leb, eq-eqb}
use Rattle.std.specs.Prelude.{Ok, Err}
use Rattle.rules.specs.declared.refusal.Refusal.{Refusal}
use Rattle.rules.specs.declared.refusal.Refusal.TheVariants.{BadSettings}
use Rattle.lists.specs.Runs.{Below}
use Rattle.lists.proofs.Tests.{by, no_first, no_second, both}
use Rattle.rules.specs.declared.settings.Settings.{Settings}
use Rattle.rules.specs.Limits.{in_limits}
use Rattle.rules.specs.Format.{format}
use Rattle.layout.specs.Store.{store_bytes}
use Rattle.store.specs.Calls.{length_of, may_format, Formatted}
use Rattle.calls.proofs.Held.{Holds}
use Rattle.calls.proofs.Claim.{formatted}
use Rattle.traces.specs.Trace.{most_bytes, can_trace}
use Rattle.traces.specs.Machine.{running}
use Rattle.pieces.specs.declared.Stage.TheVariants.{Running, Stopped}
use Rattle.pieces.specs.Stages.{Opens}

module _ (c : Settings) where
  refused : (room : List ℕ) → can_trace c ≡ false → Opens c Stopped room
  refused room f = record { phase = rw f refl; fits = tt; number = omega arith }

  -- out of limits
  pub opens_none : (room : List ℕ) (r : Refusal) → Err r ≡ length_of c → Opens c Stopped room
  unfolding length_of can_trace
  opens_none room r e =
      by (in_limits c) (λ y. let q : Err r ≡ Ok (store_bytes c) = rw y at e in let z : ◌≡◌ {A = ℕ} 0 1 = cc in absurd (omega arith))
      (λ f. refused room (no_first _ _ f))

  module _ (n : ℕ) (e : Ok n ≡ length_of c) where
    within : in_limits c ≡ true
    unfolding length_of
    within = by (in_limits c) (λ y. y) (λ f. let q : Ok n ≡ Err BadSettings = rw f at e in let z : ◌≡◌ {A = ℕ} 0 1 = cc in absurd (omega arith))

    size_is : n ≡ store_bytes c
    unfolding length_of
    size_is = let q : Ok n ≡ Ok (store_bytes c) = rw within at e in cc

    -- too large
    pub opens_large : (room : List ℕ) → most_bytes < n → Opens c Stopped room
    unfolding can_trace
    opens_large room l = refused room (no_second _ _ (lt-leb (store_bytes c) most_bytes (omega (arith, size_is))))

    traced : n ≤ most_bytes → can_trace c ≡ true
    unfolding can_trace
    traced l = both _ _ within (le-leb (store_bytes c) most_bytes (omega (arith, size_is)))

    may : (lent : List ℕ) → length lent ≡ n → may_format c lent ≡ true
    unfolding may_format
    may lent h = both _ _ within (eq-eqb _ _ (h ∙ size_is))

    -- the store is formatted
    pub opens : (lent after room : List ℕ) (r : ℕ) → n ≤ most_bytes → length lent ≡ n → Below 256 lent → Formatted c lent r after → take n room ≡ after
        → Opens c (Running 1 n) room
    opens lent after room r l size b f t =
        let h = subst (λ (x : List ℕ). Holds x (format c)) (sym t) (formatted c lent b (may lent size) r after f) in
        record {
          phase = rw (traced l) (ap (running 1) h.state);
          fits = (l, h.passes);
          number = omega arith;
        }
