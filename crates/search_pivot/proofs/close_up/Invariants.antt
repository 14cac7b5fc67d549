-- `search_pivot::close_up` meets its contract. Assumes nothing.
use mathlib.Core.Path.{◌≡◌}
use Prim.Native.Nat.{◌+◌}
use Rattle.search_pivot.proofs.Taking.{Written}
use Rattle.search_pivot.specs.Pivot.{added}
use Rattle.search_pivot.proofs.close_up.Given as goal

abbrev pub invariant-loop-next : goal.invariant-loop-next
invariant-loop-next l = Written (added l.mask l.pivot) l.free l.vectors l.next ≡ Written (added l.mask l.pivot) l.free l.initial.vectors (l.place + 1)
