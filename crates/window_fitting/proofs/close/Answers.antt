-- `window_fitting::close` meets its contract. Assumes nothing.
use Rattle.window_fitting.proofs.Closing.{closed_yes_if, closed_no_if}
use Rattle.window_fitting.proofs.close.Goals as goal

pub returns-then-closing : goal.returns-then-closing
returns-then-closing c =
    let a = c.args in
    let m = c.meet_row in
    closed_yes_if a.chains a.table.now a.stop a.slices a.vectors.now a.space m.result m.new.vectors a.closing c.if-closing.true m.ensures

pub returns : goal.returns
returns c =
    let a = c.args in
    closed_no_if a.chains a.table.now a.stop a.slices a.vectors.now a.space a.closing c.if-closing.false
