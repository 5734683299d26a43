use mathlib.Core.Path.{sym, ap, ◌∙◌}
use mathlib.Core.List.{[]}
use Prim.Native.Nat.{◌*◌}
use native.Mathlib.Omega.{arith}
use Rattle.words.specs.Words.{words}
use Rattle.words.proofs.Laws.{length_words, lent_run}
use Rattle.layout.specs.Contents.{Status}
use Rattle.layout.specs.Layout.{buffer_codec, buffer_at}
use Rattle.records.specs.Records.{status_of}
use Rattle.views.specs.Begin.{begun_status}
use Rattle.views.proofs.PlaceLaws.{begin_empty, begin_brick}
use Rattle.views.proofs.place.begin.Goals as goal

pub returns-then-id-eq0 : goal.returns-then-id-eq0
returns-then-id-eq0 c =
    let v = c.args.part.now in
    begin_empty c.args.settings (words v) (length_words v ∙ omega (arith, c.requires.size)) (sym c.id.ensures ∙ c.if-id-eq0.true)

pub returns : goal.returns
returns c =
    let v = c.args.part.now in
    let t = c.clear.new.t in
    let e = lent_run c.write_status.new.part t (8 * buffer_at) (8 * buffer_codec.size) buffer_at buffer_codec.size (buffer_codec.enc []) (omega arith)
    (omega arith) (omega arith) (omega arith) c.clear.ensures in
    begin_brick c.args.settings (words v) (length_words v ∙ omega (arith, c.requires.size)) c.requires.clean (omega arith)
    (status_of c.begun.result)
    (c.begun.ensures ∙ ap (λ (x : Status). begun_status x) c.read_status-status.ensures) _ _ c.write_status.ensures e
