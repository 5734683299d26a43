use mathlib.Core.Path.{◌≡◌, refl, sym, ◌∙◌}
use Prim.Native.Nat.{◌+◌, ◌*◌, ◌-◌}
use native.Mathlib.Omega.{arith}
use lib.ListN.{length, take, drop}
use Rattle.rules.specs.Entries.{entry, insert_if_room}
use Rattle.lists.proofs.Runs.{run_length}
use Rattle.words.proofs.Laws.{words_part, lent_run}
use Rattle.buffers.specs.Steps.{drained_at}
use Rattle.codec.specs.Codec.{change}
use Rattle.layout.specs.Layout.{entries_codec}
use Rattle.buffers.proofs.drain_at.Goals as goal

pub insert_or_drop-requires : goal.insert_or_drop-requires
insert_or_drop-requires c =
    let v = c.args.s.now in
    let o = 8 * c.args.copy in
    let k = o + (8 * (1 + c.args.most * 2)) - o in
    let e : k ≡ (8 * (1 + c.args.most * 2)) = omega arith in
    let p = words_part v o k c.args.copy (1 + c.args.most * 2) refl e (omega arith) in
    let l : length (take k (drop o v)) ≡ (8 * (1 + c.args.most * 2)) = run_length o k v (omega arith) ∙ e in
    rw (p, l) c.requires.sorted

pub returns-then-of_bucket : goal.returns-then-of_bucket
unfolding drained_at
returns-then-of_bucket c =
    let v = c.args.s.now in
    let o = 8 * c.args.copy in
    let k = o + (8 * (1 + c.args.most * 2)) - o in
    let x = entry c.read.result
    c.read-2.result in
    let q = sym (rw c.read.ensures at
    c.of_bucket.ensures) ∙ c.if-of_bucket.true in
    rw (
      q,
      ← c.read.ensures,
      ← c.read-2.ensures,
    ) (lent_run v c.insert_or_drop.new.t o k c.args.copy (1 + c.args.most * 2)
    (change (entries_codec c.args.most) (λ l. insert_if_room c.args.most l x)) refl (omega arith) (omega arith) (omega arith)
    c.insert_or_drop.ensures)

pub returns-else-of_bucket : goal.returns-else-of_bucket
unfolding drained_at
returns-else-of_bucket c =
    let q = sym (rw c.read.ensures at c.of_bucket.ensures) ∙ c.if-of_bucket.false in
    rw q
