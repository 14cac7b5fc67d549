-- `search_excluding::dead_lanes` meets its contract. Assumes nothing.
use Rattle.search_excluding.specs.Excluding.{Kills}
use Rattle.search_excluding.proofs.dead_lanes.Given as goal

abbrev pub invariant-loop-row : goal.invariant-loop-row
invariant-loop-row l = Kills l.words l.columns l.row l.group l.dead
