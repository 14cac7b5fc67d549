-- `search_lanes::reading` meets its contract. Assumes nothing.
use Rattle.search_lanes.proofs.Lanes.{Lanes}
use Rattle.search_lanes.proofs.reading.Given as goal

abbrev pub invariant-loop-place : goal.invariant-loop-place
invariant-loop-place l = Lanes l.lowest l.vectors l.mask l.place l.word
