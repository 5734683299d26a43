use native.Mathlib.Omega.{arith}
use Rattle.rules.specs.Chunks.{save_key}
use Rattle.mend.proofs.OnStore.{lent_place, place_back}
use Rattle.mend.proofs.effect.save_at.Goals as goal

pub save_chunk-requires : goal.save_chunk-requires
save_chunk-requires c =
    let a = c.args in
    lent_place a.settings a.store.now a.place c.requires _ _ c.span_of-from.ensures

pub returns : goal.returns
returns c =
    let a = c.args in
    place_back a.settings a.store.now a.place c.requires _ _ c.span_of-from.ensures (λ l. save_key l a.key.0) c.save_chunk.new.part
    (omega arith) c.save_chunk.ensures
