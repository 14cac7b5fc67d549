-- `window_growing::grow` meets its contract. Assumes nothing.
use lib.ListN.{length, take}
use Rattle.machine_slices.specs.Slices.{paired}
use Rattle.window_growing.proofs.Growing.{Growing}
use Rattle.window_growing.proofs.grow.Given as goal

abbrev pub invariant-loop-slice : goal.invariant-loop-slice
invariant-loop-slice l = Growing l.chains l.table (paired l.specified l.bits) l.cells (length l.initial.spaces) l.slice l.kept (take l.kept.free l.vectors) l.spaces
