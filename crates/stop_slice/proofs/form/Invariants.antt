-- `stop_slice::form` meets its contract: the stop slice so far is that of the steps taken. Assumes nothing.
use mathlib.Core.Path.{◌≡◌}
use Rattle.machine_slices.specs.Slices.{paired}
use Rattle.stop_steps.specs.Steps.{stage}
use Rattle.stop_slice.proofs.form.Given as goal

abbrev pub invariant-loop : goal.invariant-loop
invariant-loop l = l.stop ≡ (stage l.chains (paired l.specified l.bits) l.counter).stop
