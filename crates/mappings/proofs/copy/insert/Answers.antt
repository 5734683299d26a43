use mathlib.Core.Path.{ap, ◌∙◌}
use mathlib.Core.List.{List}
use native.Mathlib.Omega.{arith}
use Prim.Native.Nat.{◌+◌, ◌*◌, ◌-◌}
use Rattle.lists.proofs.Runs.{run_length}
use Rattle.rules.specs.Entries.{Entry, takes}
use Rattle.mappings.proofs.Entering.{memory_lent, entered}
use Rattle.mappings.proofs.copy.insert.Goals as goal

pub insert-requires : goal.insert-requires
insert-requires c =
    let s = c.args.store.now in
    let t = c.args.settings in
    let p = c.requires in
    let o = 8 * c.memory_at-at.result in
    let e = o + 8 * c.copy_words.result in
    let k = memory_lent t s p.0 c.args.place p.1 p.3 c.args.bucket p.2 o e (omega (arith, c.memory_at-at.ensures.0))
    (omega (arith, c.copy_words.ensures)) (run_length o (e - o) s (omega arith) ∙ omega arith) in record { sorted = k.sorted; b_value = ap (λ (l : List Entry). takes t.entries l c.args.block.0) k.same ∙ p.4 }

pub returns : goal.returns
returns c =
    let at = c.memory_at-at in
    let size = c.copy_words in
    let insert = c.insert in
    let p = c.requires in
    let o = 8 * at.result in
    entered c.args.settings c.args.store.now p.0 c.args.place p.1 p.3 c.args.bucket p.2 o (o + 8 * size.result)
    (omega (arith, at.ensures.0)) (omega (arith, size.ensures)) c.args.block.0 c.args.key.0 insert.new.t (omega arith) insert.ensures
