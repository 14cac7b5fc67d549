-- `search_sifting::sift` meets its contract. Assumes nothing.
use Prim.Native.Nat.{◌*◌}
use lib.ListN.{take}
use Rattle.search_sifting.proofs.Sifting.{NotClear}
use Rattle.search_sifting.proofs.sift.Given as goal

abbrev pub invariant-loop-group : goal.invariant-loop-group
invariant-loop-group l = NotClear l.pattern l.table l.rows l.lowest (take l.free l.vectors) (l.group * 64)
