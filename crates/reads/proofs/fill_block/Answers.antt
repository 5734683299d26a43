use Rattle.std.proofs.lemmas.Result.{err_from_is_err_and}
use mathlib.Core.Path.{refl, sym, ap, ◌∙◌}
use lib.ListN.{length}
use Rattle.std.specs.Prelude.{None, Ok}
use Rattle.words.specs.Words.{words}
use Rattle.rules.specs.Reads.{zeros}
use Rattle.layout.specs.Store.{decode}
use Rattle.holders.proofs.Contents.{row_lies}
use Rattle.reads.specs.Get.{Located, LooksUp}
use Rattle.reads.proofs.Contents.{unmapped_bytes, located_bytes, bytes_size}
use Rattle.reads.proofs.Outcomes.{refused, accepted, fills_refused, fills_accepted}
use Rattle.reads.proofs.fill_block.Goals as goal
use Rattle.reads.proofs.fill_block.Goals.{In-Some, After-chunk}

lies : (c : In-Some) → let chunk = c.in-Some.chunk in
    Located c.args.settings (decode (words c.args.store.now)) c.args.proxy c.args.block chunk.key.0 chunk.place chunk.row
lies c = rw c.in-Some.is at c.in_ok-chunk.ensures

pub returns-in_err-chunk : goal.returns-in_err-chunk
returns-in_err-chunk c =
    let s = decode (words c.args.store.now) in
    let p = err_from_is_err_and c.from_residual.result c.from_residual.ensures.1 in
    rw (p.1, p.2) (fills_refused s c.args.proxy c.args.block _ (refused s c.args.proxy c.args.block _ c.in_err-chunk.ensures) c.args.area.now)

pub chunk-requires : goal.chunk-requires
chunk-requires c = row_lies c.requires.0 (lies (goal.at.chunk-requires c).In-Some).lies

pub copy_bytes-requires : goal.copy_bytes-requires
copy_bytes-requires c =
    let at = lies (goal.at.copy_bytes-requires c).In-Some in
    let same = c.chunk.ensures ∙ located_bytes _ c.args.store.now c.requires.0 c.args.proxy c.args.block at in
    c.requires.1 ∙ sym (ap length same ∙ bytes_size _ c.args.store.now c.requires.0 c.args.proxy c.args.block at.accepted)

pub returns-in-Some : goal.returns-in-Some
returns-in-Some c =
    let s = decode (words c.args.store.now) in
    let at = lies (goal.at.returns-in-Some c).In-Some in
    let same = c.chunk.ensures ∙ located_bytes _ c.args.store.now c.requires.0 c.args.proxy c.args.block at in
    fills_accepted s c.args.proxy c.args.block (accepted s c.args.proxy c.args.block at.accepted at.key_mapped refl)
    c.args.area.now _ (c.copy_bytes.ensures ∙ same)

pub returns-in-None : goal.returns-in-None
returns-in-None c =
    let s = decode (words c.args.store.now) in
    let h : LooksUp c.args.settings s c.args.proxy c.args.block (Ok None) = rw c.in-None.is at c.in_ok-chunk.ensures in
    fills_accepted s c.args.proxy c.args.block (accepted s c.args.proxy c.args.block h.0 (sym h.1) refl) c.args.area.now _
    (c.clear.ensures ∙ ap zeros c.requires.1 ∙ unmapped_bytes _ c.args.store.now c.requires.0 c.args.proxy c.args.block h.1)
