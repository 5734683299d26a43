use Rattle.std.proofs.lemmas.Result.{err_from_is_err_and}
use mathlib.Core.Path.{sym, ◌∙◌}
use Rattle.std.specs.Prelude.{None, Ok}
use Rattle.words.specs.Words.{words}
use Rattle.layout.specs.Store.{decode}
use Rattle.holders.proofs.Contents.{row_lies}
use Rattle.reads.specs.Get.{Located, LooksUp}
use Rattle.reads.proofs.Contents.{unmapped_bytes, located_bytes}
use Rattle.reads.proofs.Outcomes.{refused, accepted}
use Rattle.reads.proofs.get.Goals as goal
use Rattle.reads.proofs.get.Goals.{In-Some}

lies : (c : In-Some) → let chunk = c.in-Some.chunk in
    Located c.args.settings (decode (words c.args.store.now)) c.args.proxy c.args.block chunk.key.0 chunk.place chunk.row
lies c = rw c.in-Some.is at c.in_ok-chunk.ensures

pub returns-in_err-chunk : goal.returns-in_err-chunk
returns-in_err-chunk c =
    let p = err_from_is_err_and c.from_residual.result c.from_residual.ensures.1 in
    rw (p.1, p.2) (refused (decode (words c.args.store.now)) c.args.proxy c.args.block _ c.in_err-chunk.ensures)

pub chunk-requires : goal.chunk-requires
chunk-requires c = row_lies c.requires.0 (lies (goal.at.chunk-requires c).In-Some).lies

pub returns-in-Some : goal.returns-in-Some
returns-in-Some c =
    let at = lies (goal.at.returns-in-Some c).In-Some in
    accepted (decode (words c.args.store.now)) c.args.proxy c.args.block at.accepted at.key_mapped
    (c.chunk.ensures ∙ located_bytes _ c.args.store.now c.requires.0 c.args.proxy c.args.block at)

pub returns-in-None : goal.returns-in-None
returns-in-None c =
    let s = decode (words c.args.store.now) in
    let h : LooksUp c.args.settings s c.args.proxy c.args.block (Ok None) = rw c.in-None.is at c.in_ok-chunk.ensures in
    accepted s c.args.proxy c.args.block h.0 (sym h.1)
    (c.requires.1 ∙ unmapped_bytes _ c.args.store.now c.requires.0 c.args.proxy c.args.block h.1)
