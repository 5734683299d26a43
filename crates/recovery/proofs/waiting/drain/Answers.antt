use mathlib.Core.Path.{sym, ap, ap₂, subst, ◌∙◌}
use mathlib.Core.List.{List}
use mathlib.Core.Bool.{not}
use Prim.Native.Nat.{ℕ, ◌+◌, ◌*◌, ◌-◌, ◌≤◌}
use native.Mathlib.Omega.{arith}
use lib.ListN.{get_or}
use Rattle.lists.specs.Tests.{only}
use Rattle.lists.specs.Runs.{on_run}
use Rattle.lists.proofs.Runs.{run_length}
use Rattle.rules.specs.Limits.{buckets, max_waiting}
use Rattle.rules.specs.Entries.{Entry, is_of_bucket}
use Rattle.words.specs.Words.{words}
use Rattle.words.proofs.Laws.{length_words, lent_run}
use Rattle.codec.specs.Codec.{change}
use Rattle.layout.specs.Layout.{buffer_codec}
use Rattle.layout.proofs.Lent.{lent}
use Rattle.buffers.specs.Steps.{drained_words}
use Rattle.recovery.proofs.Moved.{still_few}
use Rattle.recovery.proofs.waiting.drain.Goals as goal

pub drop_bucket-requires : goal.drop_bucket-requires
drop_bucket-requires c =
    let s = c.args.store.now in
    let t = c.args.settings in
    let v = c.drain.new.s in
    let p = c.place_at-buffer in
    let m = c.memory_at-copy in
    let n : ℕ = p.result + 6 in
    let w = lent v (8 * n) (8 * n + 520) n 65 (omega arith) (omega arith) (omega arith) in
    let few : get_or (words s) n 0 ≤ 32 = subst (λ (i : ℕ). get_or (words s) (i + 6) 0 ≤ 32) (sym p.ensures.0) c.requires.few in
    record {
      few = subst (λ (x : List ℕ). get_or x 0 0 ≤ 32) (sym w)
          (still_few (buckets t) c.args.bucket n m.result t.entries (words s) (words v) (omega (arith, length_words s, c.requires.size, m.ensures.1))
          (omega (arith, p.ensures.0, m.ensures.0)) few c.drain.ensures);
      size = run_length (8 * n) (8 * n + 520 - 8 * n) v (omega arith) ∙ omega arith;
    }

pub returns : goal.returns
returns c =
    let t = c.args.settings in
    let g = c.args.bucket in
    let v = c.drain.new.s in
    let p = c.place_at-buffer in
    let n : ℕ = p.result + 6 in
    let f : List Entry → List Entry = only (λ e. not (is_of_bucket (buckets t) g e)) in
    lent_run v c.drop_bucket.new.t (8 * n) (8 * n + 520 - 8 * n) n 65 (change buffer_codec f) (omega arith) (omega arith) (omega arith)
    (omega arith) c.drop_bucket.ensures
    ∙ ap (on_run n 65 (change buffer_codec f)) c.drain.ensures
    ∙ ap₂ (λ (i j : ℕ). on_run (i + 6) 65 (change buffer_codec f) (drained_words (buckets t) g (i + 6) max_waiting j t.entries
    (words c.args.store.now)))
    p.ensures.0 c.memory_at-copy.ensures.0
