use mathlib.Core.Path.{◌∙◌}
use native.Mathlib.Omega.{arith}
use Rattle.writes.proofs.PutAsks.{no_place, no_data, of_block}
use Rattle.writes.proofs.put.field_asks.Goals as goal

pub returns-then-settings-place : goal.returns-then-settings-place
returns-then-settings-place c =
    let a = c.args in
    no_place a.settings a.proxy a.place a.block a.bytes.now c.if-settings-place.true

pub returns-then-bytes-settings : goal.returns-then-bytes-settings
returns-then-bytes-settings c =
    let a = c.args in
    no_data a.settings a.proxy a.place a.block a.bytes.now c.if-bytes-settings.true

pub returns : goal.returns
returns c =
    let a = c.args in
    c.block_asks.ensures
    ∙ of_block a.settings a.proxy a.place a.block a.bytes.now (omega (arith, c.if-settings-place.false)) c.if-bytes-settings.false
    (λ i. (c.type_inv.bytes i).fits)
