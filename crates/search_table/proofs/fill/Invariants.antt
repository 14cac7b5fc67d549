-- `search_table::fill` meets its contract. Assumes nothing.
use Rattle.search_table.proofs.Filling.{Filled}
use Rattle.search_table.proofs.fill.Given as goal

abbrev pub invariant-loop-place : goal.invariant-loop-place
invariant-loop-place l = Filled l.taps l.rows l.masks l.initial.table l.table l.place
