use mathlib.Core.Path.{refl, sym, ◌∙◌}
use Prim.Native.Nat.{◌+◌}
use native.Mathlib.Omega.{arith}
use lib.ListN.{length}
use lib.Seq.{length-take-le}
use Rattle.lines.proofs.Feeds.{feed_found, no_feed}
use Rattle.pieces.proofs.Pieces.{piece_held, piece_line}
use Rattle.pieces.proofs.take_piece.Goals as goal

-- `pieces::take_piece` meets its contract.

pub returns-in_default : goal.returns-in_default
returns-in_default c =
    let a = c.args in
    let h = c.hold-kept in
    piece_held a.trace a.room.now a.line.now a.input.now a.out.now c.requires.0 (length a.input.now)
    (no_feed a.input.now (sym c.first_feed.ensures ∙ c.in_default.is)) refl h.result h.new.line h.auto.line h.ensures.0 h.ensures.1

pub slice_bounds-hold-end : goal.slice_bounds-hold-end
slice_bounds-hold-end c =
    let f = feed_found c.args.input.now c.in-Some.feed (sym c.first_feed.ensures ∙ c.in-Some.is) in
    sym (length-take-le (c.in-Some.feed + 1) c.args.input.now (omega (arith, f.1)))

pub slice_bounds-take_line-end-2 : goal.slice_bounds-take_line-end-2
slice_bounds-take_line-end-2 c =
    let h = c.hold-kept-2 in
    sym (length-take-le h.result h.new.line (omega (arith, h.ensures.0, h.auto.line, c.requires.0.line_size)))

pub returns : goal.returns
returns c =
    let a = c.args in
    let f = feed_found a.input.now c.in-Some.feed (sym c.first_feed.ensures ∙ c.in-Some.is) in
    let h = c.hold-kept-2 in
    let w = c.take_line-said in
    piece_line a.trace a.room.now a.line.now a.input.now a.out.now c.requires.0 c.in-Some.feed f.0 f.1 h.result h.new.line h.auto.line
    h.ensures.1 w.result w.new.room w.new.out w.auto.room w.ensures
