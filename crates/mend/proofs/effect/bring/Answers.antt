use mathlib.Core.Path.{sym, ap, ◌∙◌}
use mathlib.Core.Bool.{true}
use native.Mathlib.Omega.{arith}
use lib.ListN.{length}
use Rattle.rules.specs.Chunks.{new_chunk, append}
use Rattle.holders.proofs.Contents.{row_lies}
use Rattle.mend.proofs.OnStore.{lent_place, lent_room, place_back}
use Rattle.mend.proofs.OneKey.{some_room, row_whole, added}
use Rattle.mend.proofs.effect.bring.Goals as goal

pub chunk-requires : goal.chunk-requires
chunk-requires c =
    row_lies c.requires.mends.0.there.store c.requires.lacking.from

pub copy_bytes-requires : goal.copy_bytes-requires
copy_bytes-requires c =
    c.requires.mends.1 ∙ sym (ap length c.chunk.ensures ∙ row_whole _ _ _ _ c.requires.mends.0 _ _ c.requires.lacking)

pub span_of-from-requires : goal.span_of-from-requires
span_of-from-requires c =
    (c.requires.mends.0.there.store.limits, c.requires.mends.0.there.inside)

pub append_saved-requires : goal.append_saved-requires
append_saved-requires c =
    let up = c.requires.mends.0.there in
    let room = lent_room _ _ _ up _ _ c.span_of-from.ensures (some_room _ _ _ _ c.requires.mends.0 _ _ c.requires.lacking) in record { place_log = lent_place _ _ _ up _ _ c.span_of-from.ensures; part_bound = (room, c.copy_bytes.auto.d ∙ c.requires.mends.1) }

pub returns : goal.returns
returns c =
    let area = c.copy_bytes.new.d in
    added _ _ _ _ c.requires.mends.0 _ _ c.requires.lacking area _ (c.copy_bytes.ensures ∙ c.chunk.ensures)
    (place_back _ _ _ c.requires.mends.0.there _ _ c.span_of-from.ensures (λ l. append l (new_chunk c.args.key.0 true area)) c.append_saved.new.part
    (omega arith) c.append_saved.ensures)
