-- `window_fitting::fit` meets its contract. Assumes nothing.
use lib.ListN.{take}
use Rattle.machine_slices.specs.Slices.{paired}
use Rattle.window_rows.proofs.Fitting.{Fitted}
use Rattle.window_fitting.proofs.fit.Given as goal

abbrev pub invariant-loop-slice : goal.invariant-loop-slice
invariant-loop-slice l = Fitted l.chains l.table (paired l.specified l.bits) l.initial.kept (take l.initial.kept.free l.initial.vectors) l.slice l.kept (take l.kept.free l.vectors)
