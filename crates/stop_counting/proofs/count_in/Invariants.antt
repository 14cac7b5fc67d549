-- `stop_counting::count_in` meets its contract: the slices passed that are in, and those that follow, are all that are in. Assumes nothing.
use mathlib.Core.Path.{◌≡◌}
use Prim.Native.Nat.{◌+◌, ◌≤◌, min}
use lib.ListN.{length}
use Rattle.stop_steps.specs.Lookup.{in_count}
use Rattle.stop_counting.proofs.Counting.{rest}
use Rattle.stop_counting.proofs.count_in.Given as goal

abbrev pub invariant-loop-i : goal.invariant-loop-i
invariant-loop-i l = (l.slices ≡ min (length l.specified) (length l.bits)) × (l.i ≤ l.slices) × (l.count ≤ l.i) × (l.count + rest l.stop l.specified l.bits l.i ≡ in_count l.stop l.specified l.bits)
