use Rattle.text.specs.Lines.{read_settings}
use Rattle.pieces.proofs.Stages.{opened_some, opened_none}
use Rattle.pieces.proofs.open_line.Goals as goal

-- `pieces::open_line` meets its contract.

pub returns-in-Some : goal.returns-in-Some
returns-in-Some c =
    let p = c.parse_settings in
    opened_some (read_settings c.args.line.now) p.result p.ensures _ _ c.in-Some.given c.in-Some.is
    c.open_store.ensures

pub returns-in-None : goal.returns-in-None
returns-in-None c =
    let p = c.parse_settings in
    opened_none (read_settings c.args.line.now) p.result p.ensures c.in-None.is _
