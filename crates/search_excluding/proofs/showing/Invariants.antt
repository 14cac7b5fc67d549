-- `search_excluding::showing` meets its contract. Assumes nothing.
use Rattle.search_excluding.proofs.Excluding.{Showing}
use Rattle.search_excluding.proofs.showing.Given as goal

abbrev pub invariant-loop-column : goal.invariant-loop-column
invariant-loop-column l = Showing l.words l.first l.group l.lanes l.column
