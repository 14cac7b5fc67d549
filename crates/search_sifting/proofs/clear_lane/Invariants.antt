-- `search_sifting::clear_lane` meets its contract. Assumes nothing.
use lib.ListN.{take}
use Rattle.words_bounded.specs.Bounded.{NoneBelow}
use Rattle.search_sifting.specs.Clear.{lane_clear}
use Rattle.search_sifting.proofs.clear_lane.Given as goal

abbrev pub invariant-loop-lane : goal.invariant-loop-lane
invariant-loop-lane l = NoneBelow (lane_clear l.pattern l.table l.rows l.lowest (take l.free l.vectors) l.base) l.lane
