use mathlib.Core.Path.{ap, ◌∙◌}
use mathlib.Core.List.{List}
use Prim.Native.Nat.{ℕ, ◌<◌}
use native.Mathlib.Omega.{arith}
use lib.ListN.{get_or, set}
use Rattle.words.specs.Words.{words}
use Rattle.words.proofs.Laws.{length_words}
use Rattle.rules.specs.Limits.{buckets}
use Rattle.tables.proofs.Changes.{sift_start, no_kept}
use Rattle.buffers.specs.Steps.{row_stays}
use Rattle.buffers.proofs.Sifted.{buffer_low, buffer_turn, buffer_next, buffer_end}
use native.Mathlib.Numerals.{add-one}
use Rattle.buffers.proofs.drop_bucket.Goals as goal

pub loop-i-init : goal.loop-i-init
loop-i-init c =
    let k = row_stays (buckets c.args.settings) c.args.g in (
      no_kept 2 c.args.most (words c.args.t.now) (length_words c.args.t.now ∙ omega arith) c.requires.few k,
      sift_start 2 c.args.most (words c.args.t.now) (length_words c.args.t.now ∙ omega arith) c.requires.few k,
    )

pub sift_at-o-requires : goal.sift_at-o-requires
sift_at-o-requires c =
    let l = c.loop-i in (
      buffer_low c.args.most (words c.args.t.now) (length_words c.args.t.now ∙ omega arith) c.requires.few (buckets c.args.settings)
          c.args.g l.i l.o (words l.t) (omega arith) l.invariant.1 l.invariant.0,
      omega arith,
      omega arith,
    )

pub loop-i-preserved : goal.loop-i-preserved
loop-i-preserved c =
    let l = c.loop-i in
    let r = c.sift_at-o in
    let h : l.i < get_or (words c.args.t.now) 0 0 = omega arith in (
      rw (add-one l.i) (buffer_next c.args.most (words c.args.t.now) (length_words c.args.t.now ∙ omega arith) c.requires.few
          (buckets c.args.settings) c.args.g l.i l.o (words l.t) h l.invariant.1 l.invariant.0 r.result r.ensures.next),
      rw (add-one l.i) (buffer_turn c.args.most (words c.args.t.now) (length_words c.args.t.now ∙ omega arith) c.requires.few
          (buckets c.args.settings) c.args.g l.i l.o (words l.t) h l.invariant.1 l.invariant.0 (words r.new.t) r.ensures.words),
    )

pub returns : goal.returns
returns c =
    let l = c.loop-i in
    c.write.ensures ∙ ap (λ (v : List ℕ). set v 0 l.o) l.invariant.1 ∙ buffer_end c.args.most (words c.args.t.now)
    (length_words c.args.t.now ∙ omega arith) c.requires.few (buckets c.args.settings) c.args.g l.i l.o (omega arith) l.invariant.0
