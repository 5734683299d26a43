use mathlib.Core.Path.{refl}
use native.Mathlib.Omega.{arith}
use Rattle.bench.specs.Moved.{done, refused}
use Rattle.bench.proofs.bench_move.Goals as goal

pub returns-then-count-n : goal.returns-then-count-n
returns-then-count-n c = refused (omega arith) refl refl

pub returns-then-count-n-2 : goal.returns-then-count-n-2
returns-then-count-n-2 c = refused (omega arith) refl refl

pub returns-then-count-n-3 : goal.returns-then-count-n-3
returns-then-count-n-3 c = refused (omega arith) refl refl

pub returns : goal.returns
returns c = done (omega arith) refl c.move_words.ensures
