use mathlib.Core.Path.{◌≡◌, refl, sym, ◌∙◌}
use Prim.Native.Nat.{ℕ}
use native.Mathlib.Omega.{arith}
use borrow.Author.Rules.{rules}
use Rattle.std.specs.Prelude.{Option, Some, None}
use Rattle.words.specs.Words.{words}
use Rattle.lists.proofs.Runs.{below_of}
use Rattle.std.proofs.iter.Serving.{serving}
use Rattle.chunk_log.specs.Log.{log_dec}
use Rattle.chunk_log.proofs.Steps.{holds_saved}
use Rattle.chunk_log.proofs.Rules.{none_saved}
use Rattle.chunk_log.proofs.Check.{looser}
use Rattle.chunk_log.proofs.holds_saved.Goals as goal

either : {A : Type 0} (r : Option ℕ) → ((x : ℕ) → r ≡ Some x → A) → (r ≡ None → A) → A
either (Some x) f n = f x refl
either None f n = n refl

pub find-requires : goal.find-requires
find-requires c = looser (omega arith) c.requires

pub returns : goal.returns
returns c = either c.find.result
    (λ p e.
    let s = holds_saved c.args.chunks c.args.width c.args.log.now c.requires
    (below_of 256 c.args.log.now (λ i. search rules)) c.args.k.0 p (rw e at c.find.ensures.found) in
    let is = rw e at c.is_some_and.ensures in
    grind (arith, serving))
    (λ e. (rw e at c.is_some_and.ensures) ∙ sym (none_saved (log_dec c.args.chunks c.args.width (words c.args.log.now)) c.args.k.0 (rw e at c.find.ensures.found)))
