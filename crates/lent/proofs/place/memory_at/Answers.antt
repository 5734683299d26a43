use mathlib.Core.Path.{ap, ◌∙◌}
use Prim.Native.Nat.{ℕ, ◌*◌, ◌^◌, ◌<◌}
use native.Mathlib.Omega.{arith}
use Rattle.lists.proofs.Runs.{fits_in}
use Rattle.layout.specs.Layout.{copies_words}
use Rattle.layout.proofs.Bounds.{place_small}
use Rattle.lent.proofs.place.memory_at.Goals as goal

-- the copies of all buckets are few words
small : (c : goal.After-buckets) → c.buckets.result * c.copies_words.result < 2 ^ 27
small c =
    rw (c.buckets.ensures, c.copies_words.ensures) (omega (arith, place_small c.args.settings c.requires.0))

pub offset-requires : goal.offset-requires
offset-requires c = (omega arith, omega (arith, small c))

pub overflow_add-result : goal.overflow_add-result
overflow_add-result c =
    let small : c.buckets.result * c.copies_words.result < 2 ^ 27 = rw (c.buckets.ensures, c.copies_words.ensures) (omega (arith, place_small c.args.settings c.requires.0)) in
    omega (arith, small)

pub returns : goal.returns
returns c =
    let size = c.copies_words in
    let e = c.offset.ensures.0 ∙ ap (λ (k : ℕ). c.args.bucket * k) size.ensures in
    (omega (arith, e), omega (arith, e, fits_in (copies_words c.args.settings) c.requires.1))
