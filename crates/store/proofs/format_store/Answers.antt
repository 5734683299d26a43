use mathlib.Core.Path.{◌≡◌, sym, ap, ◌∙◌}
use native.Mathlib.Omega.{arith}
use lib.ListN.{length}
use Rattle.std.proofs.lemmas.Result.{err_from_is_err_and}
use Rattle.lists.proofs.Runs.{below_of}
use Rattle.words.specs.Words.{words}
use Rattle.rules.specs.declared.settings.Settings.{Settings}
use Rattle.rules.specs.Format.{format}
use Rattle.rules.proofs.Limits.{limits}
use Rattle.layout.specs.Store.{render, store_bytes}
use Rattle.store.specs.Calls.{settings}
use Rattle.store.proofs.Answers.{good_limits, good_is, bad_limits, refused, bad_format, short_format, accepted}
use Rattle.store.proofs.format_store.Goals as goal

pub returns-in_err-made : goal.returns-in_err-made
returns-in_err-made c =
    let a = c.args in
    let s = a.store.now in
    let p = err_from_is_err_and c.from_residual.result c.from_residual.ensures.1 in
    let b = bad_limits a.places a.size a.entries a.chunks _ c.in_err-made.ensures in
    rw (p.1, p.2, b.1) (refused _ s (bad_format _ s b.0))

pub store_bytes-requires : goal.store_bytes-requires
store_bytes-requires c =
    let a = c.args in
    let made = c.in_ok-made.ensures in
    rw (good_is a.places a.size a.entries a.chunks _ made) (limits _ (good_limits a.places a.size a.entries a.chunks _ made))

pub returns-then-store-store_bytes : goal.returns-then-store-store_bytes
returns-then-store-store_bytes c =
    let a = c.args in
    let e = good_is a.places a.size a.entries a.chunks _ c.in_ok-made.ensures in
    refused _ a.store.now (short_format _ a.store.now (λ h. c.if-store-store_bytes.true (h ∙ sym (c.store_bytes.ensures ∙ ap store_bytes e))))

pub first_state-requires : goal.first_state-requires
first_state-requires c =
    let a = c.args in
    let made = c.in_ok-made.ensures in (
      rw (good_is a.places a.size a.entries a.chunks _ made) (limits _ (good_limits a.places a.size a.entries a.chunks _ made)),
      c.if-store-store_bytes.false ∙ c.store_bytes.ensures,
    )

pub returns : goal.returns
returns c =
    let a = c.args in
    let e = good_is a.places a.size a.entries a.chunks _ c.in_ok-made.ensures in
    let s = a.store.now in
    let first = c.first_state in
    let h : length s ≡ store_bytes (settings a.places a.size a.entries a.chunks) =
    c.if-store-store_bytes.false ∙ c.store_bytes.ensures ∙ ap store_bytes e in
    accepted _ s first.new.s (good_limits a.places a.size a.entries a.chunks _ c.in_ok-made.ensures) h
    (below_of 256 first.new.s (λ i. omega (arith, c.type_inv.store i))) first.auto.s
    (first.ensures ∙ ap (λ (t : Settings). render (format t) (words s)) e)
