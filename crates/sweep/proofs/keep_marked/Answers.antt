use mathlib.Core.Path.{◌∙◌}
use native.Mathlib.Omega.{arith}
use Rattle.words.specs.Words.{words}
use Rattle.sweep.specs.Marks.{swept}
use Rattle.sweep.proofs.Steps.{second_requires, third_requires, swept_words}
use Rattle.sweep.proofs.keep_marked.Goals as goal

pub renumber-requires : goal.renumber-requires
renumber-requires c =
    let n = c.read-n in
    let r = c.rank in record { n_le_chunks = (omega arith, omega arith); by_index = second_requires c.args.chunks c.args.width c.args.log.now c.requires n.result n.ensures (words r.new.log) r.ensures }

pub pack-m-requires : goal.pack-m-requires
pack-m-requires c =
    let n = c.read-n in
    let r = c.rank in
    let m = c.renumber in (
      omega arith,
      omega arith,
      third_requires c.args.chunks c.args.width c.args.log.now c.requires n.result n.ensures (words r.new.log) r.ensures
          (words m.new.log) m.ensures,
    )

pub returns : goal.returns
unfolding swept
returns c =
    let n = c.read-n in
    let r = c.rank in
    let m = c.renumber in
    let p = c.pack-m in
    c.write.ensures ∙ swept_words c.args.chunks c.args.width c.args.log.now c.requires n.result n.ensures
    (words r.new.log) r.ensures (words m.new.log) m.ensures (words p.new.log) p.result p.ensures.words p.ensures.left
