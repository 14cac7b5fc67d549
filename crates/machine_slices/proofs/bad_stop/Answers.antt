-- `machine_slices::bad_stop` meets its contract. Assumes nothing.
use mathlib.Core.Path.{sym, ◌∙◌}
use Rattle.machine_slices.proofs.Causes.{stop_empty, stop-formed}
use Rattle.machine_slices.proofs.bad_stop.Goals as goal

pub returns-then-stop-eq0 : goal.returns-then-stop-eq0
returns-then-stop-eq0 c = sym (stop_empty _ c.args.stop c.if-stop-eq0.true)

pub returns : goal.returns
returns c = c.bad_slice.ensures ∙ sym (stop-formed _ c.args.stop c.if-stop-eq0.false)
