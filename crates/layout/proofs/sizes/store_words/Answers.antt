use mathlib.Core.Path.{ap}
use Prim.Native.Nat.{ℕ, ◌*◌}
use native.Mathlib.Omega.{arith}
use Rattle.layout.proofs.Bounds.{places_small, store_small}
use Rattle.layout.proofs.sizes.store_words.Goals as goal

pub overflow_mul-result : goal.overflow_mul-result
overflow_mul-result c =
    omega (arith, places_small c.args.settings c.requires, ap (λ (k : ℕ). c.args.settings.places * k) c.place_words.ensures)

pub overflow_add-result : goal.overflow_add-result
overflow_add-result c =
    omega (arith, store_small c.args.settings c.requires, ap (λ (k : ℕ). c.args.settings.places * k) c.place_words.ensures)

pub returns : goal.returns
returns c = omega (arith, ap (λ (k : ℕ). c.args.settings.places * k) c.place_words.ensures)
