-- `window_quiet::most_quiet` meets its contract. Assumes nothing.
use Rattle.machine_slices.specs.Slices.{paired}
use lib.ListN.{take}
use Rattle.window_quiet.proofs.Quiet.{Quiet}
use Rattle.window_quiet.proofs.most_quiet.Given as goal

abbrev pub invariant-loop-slice : goal.invariant-loop-slice
invariant-loop-slice l = Quiet l.chains l.table l.pattern l.stops (paired l.specified l.bits) l.cells l.slice l.kept (take l.kept.free l.vectors)
