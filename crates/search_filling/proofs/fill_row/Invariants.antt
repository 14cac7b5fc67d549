-- `search_filling::fill_row` meets its contract. Assumes nothing.
use lib.ListN.{take}
use Rattle.search_filling.proofs.Words.{Filling}
use Rattle.search_filling.proofs.fill_row.Given as goal

abbrev pub invariant-loop-column : goal.invariant-loop-column
invariant-loop-column l = Filling (record { columns = l.columns; bits = l.initial.bits }) l.table l.row l.lowest (take l.free l.vectors) l.initial.words l.first l.words l.bits l.column
