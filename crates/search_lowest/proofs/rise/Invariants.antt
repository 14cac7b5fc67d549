-- `search_lowest::rise` meets its contract. Assumes nothing.
use mathlib.Core.Path.{◌≡◌}
use Prim.Native.Nat.{◌≤◌}
use lib.ListN.{take}
use Rattle.search_found.specs.Search.{lowest_clear}
use Rattle.search_lowest.proofs.rise.Given as goal

abbrev pub invariant-loop-count : goal.invariant-loop-count
invariant-loop-count l = (l.count ≤ l.most) × (l.found ≡ lowest_clear l.pattern l.table l.rows l.lowest (take l.count (take l.free l.vectors)))
