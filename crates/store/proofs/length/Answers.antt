use mathlib.Core.Path.{ap, ◌∙◌}
use Rattle.std.specs.Prelude.{Ok}
use Rattle.std.proofs.lemmas.Result.{err_from_is_err_and}
use Rattle.rules.proofs.Limits.{limits}
use Rattle.layout.specs.Store.{store_bytes}
use Rattle.store.proofs.Answers.{good_limits, good_is, bad_limits, length_good, length_bad}
use Rattle.store.proofs.length.Goals as goal

pub returns-in_err-good : goal.returns-in_err-good
returns-in_err-good c =
    let a = c.args in
    let p = err_from_is_err_and c.from_residual.result c.from_residual.ensures.1 in
    let b = bad_limits a.places a.size a.entries a.chunks _ c.in_err-good.ensures in
    rw (p.1, p.2, b.1) (length_bad _ b.0)

pub store_bytes-requires : goal.store_bytes-requires
store_bytes-requires c =
    let a = c.args in
    rw (good_is a.places a.size a.entries a.chunks _ c.in_ok-good.ensures) (limits _ (good_limits a.places a.size a.entries a.chunks _ c.in_ok-good.ensures))

pub returns : goal.returns
returns c =
    let a = c.args in
    let made = c.in_ok-good.ensures in
    ap Ok (c.store_bytes.ensures ∙ ap store_bytes (good_is a.places a.size a.entries a.chunks _ made)) ∙ length_good _ (good_limits a.places a.size a.entries a.chunks _ made)
