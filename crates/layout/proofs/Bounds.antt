-- No sum or product that leads to an offset in the store reaches 2^34, also at the largest settings.
use Prim.Native.Nat.{◌*◌, ◌/◌, ◌^◌, ◌≤◌, ◌<◌}
use native.Mathlib.Nat.{mul-le-mul}
use native.Mathlib.Omega.{arith}
use Rattle.rules.specs.declared.settings.Settings.{Settings}
use Rattle.rules.specs.Limits.{buckets}
use Rattle.rules.specs.Limits.{Limits}
use Rattle.rules.proofs.Limits.{few_buckets}
use Rattle.layout.specs.Layout.{copies_words, place_words, store_words}

module _ (c : Settings) (l : Limits c) where
  -- the words of a log's cells
  pub cells_small : c.chunks * (c.size / 8) ≤ 2 ^ 26
  cells_small = let w : c.size / 8 ≤ 2 ^ 10 = omega (arith, l.size_to) in mul-le-mul l.chunks_to w

  -- the words of a place's copies
  pub copies_small : buckets c * copies_words c ≤ 2 ^ 19
  copies_small = let w : copies_words c ≤ 2 ^ 13 = omega (arith, l.entries_to) in mul-le-mul (few_buckets c) w

  pub place_small : place_words c < 2 ^ 27
  place_small = omega (arith, cells_small, copies_small, l.chunks_to)

  pub places_small : c.places * place_words c ≤ 2 ^ 30
  places_small = let w : place_words c ≤ 2 ^ 27 = omega (arith, place_small) in mul-le-mul l.places_to w

  -- so many bytes has a store
  pub store_small : 8 * store_words c < 2 ^ 34
  store_small = omega (arith, places_small, few_buckets c)
