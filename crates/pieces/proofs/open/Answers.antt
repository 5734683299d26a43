use Rattle.pieces.proofs.Stages.{open_quiet, open_refused}
use Rattle.pieces.proofs.open.Goals as goal

-- `pieces::open` meets its contract.

pub returns-in-Stopped : goal.returns-in-Stopped
returns-in-Stopped c =
    let a = c.args in
    let o = c.open_line-stage in
    let w = c.write_answer-written in
    open_refused a.line.now o.new.room a.out.now o.result o.ensures c.in-Stopped.is w.result w.new.area
    w.ensures.0 w.ensures.1

pub returns : goal.returns
returns c =
    let a = c.args in
    let o = c.open_line-stage in
    open_quiet a.line.now o.new.room a.out.now o.result o.ensures
    c.in_default.not-Stopped
