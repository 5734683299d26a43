use mathlib.Core.Path.{◌≡◌, ap, ◌∙◌}
use mathlib.Core.List.{List}
use Prim.Native.Nat.{ℕ, ◌/◌, ◌≤◌}
use native.Mathlib.Omega.{arith}
use lib.ListN.{length, drop, length-drop}
use Rattle.words.specs.Words.{words}
use Rattle.words.proofs.Laws.{length_words}
use Rattle.rules.specs.Chunks.{new_chunk, append}
use Rattle.layout.specs.Store.{decode, render}
use Rattle.lent.specs.Places.{with_chunks}
use Rattle.transfer.specs.Brings.{log_at_place, cell_at}
use Rattle.transfer.proofs.Brought.{found_few, found_bytes, moved_fits, entered}
use Rattle.transfer.proofs.bring.Goals as goal

pub cell_at-bytes-requires : goal.cell_at-bytes-requires
cell_at-bytes-requires c = (
  c.requires.store.limits,
  c.requires.from_in,
  found_few c.args.settings c.args.store.now c.requires.store c.args.source c.requires.from_in c.requires.from_filled _ _ c.requires.found,
)

pub enter-requires : goal.enter-requires
enter-requires c =
    let source : List ℕ = drop c.cell_at-bytes.result (words c.args.store.now) in
    let next : c.cell_at-cell.result ≡ cell_at c.args.settings c.args.target (length (log_at_place (decode (words c.args.store.now)) c.args.target)) = c.cell_at-cell.ensures.0 ∙ ap (cell_at c.args.settings c.args.target) c.chunk_count-count.ensures in
    let enough : c.args.settings.size / 8 ≤ length (source) = rw (length-drop, length_words) (omega (arith, c.cell_at-bytes.ensures.1, c.requires.store.size)) in
    moved_fits c.args.settings c.args.store.now c.requires.store c.args.target c.requires.to_in c.requires.to_filled c.requires.room (source)
    c.cell_at-cell.result (next) (enough) c.move_words.new.s c.move_words.auto.s c.move_words.ensures _ _ c.span_of-from.ensures

pub returns : goal.returns
returns c =
    let source : List ℕ = drop c.cell_at-bytes.result (words c.args.store.now) in
    let next : c.cell_at-cell.result ≡ cell_at c.args.settings c.args.target (length (log_at_place (decode (words c.args.store.now)) c.args.target)) = c.cell_at-cell.ensures.0 ∙ ap (cell_at c.args.settings c.args.target) c.chunk_count-count.ensures in
    let enough : c.args.settings.size / 8 ≤ length (source) = rw (length-drop, length_words) (omega (arith, c.cell_at-bytes.ensures.1, c.requires.store.size)) in
    let state = decode (words c.args.store.now) in
    entered c.args.settings c.args.store.now c.requires.store c.args.target c.requires.to_in c.requires.to_filled c.requires.room (source)
    c.cell_at-cell.result (next) (enough) c.move_words.new.s c.move_words.auto.s c.move_words.ensures _ _ c.span_of-from.ensures
    c.args.key.0 c.args.saved c.enter.new.part c.enter.auto.part c.enter.ensures
    ∙ ap (λ (b : List ℕ). render (with_chunks state (state.ids c.args.target) (append (log_at_place state c.args.target) (new_chunk c.args.key.0 c.args.saved b)))
    (words c.args.store.now)) (found_bytes c.args.settings c.args.store.now c.requires.store c.args.source c.requires.from_in c.requires.from_filled _ _ c.requires.found
    c.cell_at-bytes.result c.cell_at-bytes.ensures.0)
