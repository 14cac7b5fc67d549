-- `search_filling::fill` meets its contract. Assumes nothing.
use mathlib.Core.Path.{◌≡◌}
use Prim.Native.Nat.{◌≤◌}
use lib.ListN.{length, take}
use Rattle.search_rows.specs.Leaf.{Filled}
use Rattle.search_filling.proofs.fill.Given as goal

abbrev pub invariant-loop-row : goal.invariant-loop-row
invariant-loop-row l = (l.count ≤ l.row) × (length l.words ≡ 512) × Filled l.pattern l.table l.rows l.lowest (take l.free l.vectors) l.words l.count
