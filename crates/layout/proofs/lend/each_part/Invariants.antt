use Rattle.std.proofs.Common.{◌≡◌, ℕ, List, ◌*◌, ◌<◌, length, ◌≤◌}
use Rattle.std.specs.Borrow.{MutBor}
use Rattle.layout.specs.Each.{part_of}
use Rattle.layout.proofs.lend.each_part.Given as goal

abbrev pub invariant-loop-i : goal.invariant-loop-i
invariant-loop-i g l = record {
  long : length l.s ≡ 8 * (l.count * l.size);
  done : (j : ℕ) → j < l.i
      → (x : MutBor (List ℕ)) × ((y : MutBor (List ℕ)) × ((x.now ≡ part_of l.size j l.initial.s) × (y.now ≡ part_of l.size j l.s) × goal.F-post g l.step j x tt y));
  rest : (j : ℕ) → l.i ≤ j → j < l.count → part_of l.size j l.s ≡ part_of l.size j l.initial.s;
}
