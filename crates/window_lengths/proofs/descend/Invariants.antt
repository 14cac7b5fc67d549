-- `window_lengths::descend` meets its contract. Assumes nothing.
use Rattle.machine_settings.specs.Machine.{machine}
use Rattle.machine_slices.specs.Slices.{paired}
use Rattle.window_lengths.proofs.Reaching.{Passed}
use Rattle.window_lengths.proofs.descend.Given as goal

abbrev pub invariant-loop-slices : goal.invariant-loop-slices
invariant-loop-slices l = Passed (machine l.sought.settings l.masks) l.sought.stop l.sought.closing (paired l.specified l.bits) l.slices
