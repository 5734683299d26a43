use mathlib.Core.Path.{◌≡◌, ap, ◌∙◌}
use Prim.Native.Nat.{ℕ, ◌*◌, ◌^◌, ◌≤◌}
use native.Mathlib.Omega.{arith}
use Rattle.lists.proofs.Runs.{fits_in}
use Rattle.rules.proofs.Limits.{few_buckets}
use Rattle.layout.specs.Layout.{place_words}
use Rattle.layout.proofs.Bounds.{places_small}
use Rattle.layout.proofs.sizes.place_at.Goals as goal

pub offset-requires : goal.offset-requires
offset-requires c =
    let h : c.args.settings.places * c.place_words.result ≤ 2 ^ 30 = rw c.place_words.ensures (places_small _ c.requires.0) in
    (omega arith, omega arith)

pub overflow_add-result : goal.overflow_add-result
overflow_add-result c =
    let h : c.args.settings.places * c.place_words.result ≤ 2 ^ 30 = rw c.place_words.ensures (places_small _ c.requires.0) in
    omega (arith, few_buckets c.args.settings)

pub returns : goal.returns
returns c =
    let o : c.offset.result ≡ c.args.p * place_words c.args.settings =
    c.offset.ensures.0 ∙ ap (λ (k : ℕ). c.args.p * k) c.place_words.ensures in
    (omega arith, omega (arith, fits_in (place_words c.args.settings) c.requires.1))
