-- `search_space::units` meets its contract. Assumes nothing.
use mathlib.Core.Path.{◌≡◌}
use lib.ListN.{take}
use Rattle.search_space.specs.Space.{units}
use Rattle.search_space.proofs.units.Given as goal

abbrev pub invariant-loop-cell : goal.invariant-loop-cell
invariant-loop-cell l = take l.cell l.vector-items ≡ units 0 l.cell
