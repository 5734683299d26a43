-- The place of a text's first line feed.
use mathlib.Core.Path.{◌≡◌}
use mathlib.Core.Bool.{not, true}
use mathlib.Core.List.{List}
use Prim.Native.Nat.{ℕ, ◌<◌}
use native.Mathlib.Omega.{arith}
use borrow.Author.Tests.{eqb-true, eqb-false, ltb-false}
use lib.Dec.{eqb, ltb}
use lib.ListN.{length, get_or}
use Rattle.std.specs.Prelude.{Option, Some, None, position}
use Rattle.std.specs.List.{position_or_len}
use Rattle.std.proofs.lemmas.List.Quantifiers.{position-Some}
use Rattle.std.proofs.lemmas.List.Sums.{prefix_len_passes}
use Rattle.lists.proofs.Tests.{by}
use Rattle.text.specs.Lines.{line_feed}
use Rattle.lines.specs.Lines.{FirstFeed}

pub feed_found : (s : List ℕ) (r : ℕ) → position (λ b. eqb b line_feed) s ≡ Some r → FirstFeed s r × (r < length s)
feed_found s r e =
    let q = position-Some (λ b. eqb b line_feed) s r 0 e in
    (record { within = omega arith; before = λ k h. eqb-false (get_or s k 0) line_feed (q.2 k h); found = λ _. eqb-true (get_or s r 0) line_feed q.1 }, q.0)

other : (b : ℕ) → not (eqb b line_feed) ≡ true → b ≡ line_feed → ⊥
other b e = by (eqb b line_feed) (λ t. let z : not true ≡ true = rw t at e in cc) (λ f. eqb-false b line_feed f)

pub no_feed : (s : List ℕ) → position (λ b. eqb b line_feed) s ≡ None → FirstFeed s (length s)
no_feed s e =
    let n = position_or_len (λ b. eqb b line_feed) s in
    let all = ltb-false n (length s) (by (ltb n (length s)) (λ t. let z : ◌≡◌ {A = Option ℕ} (Some n) None = rw t at e in cc) (λ f. f)) in
    record {
      within = omega arith;
      before = λ k h. other (get_or s k 0) (prefix_len_passes (λ b. not (eqb b line_feed)) s k 0 (omega arith));
      found = λ h. absurd (omega arith);
    }
