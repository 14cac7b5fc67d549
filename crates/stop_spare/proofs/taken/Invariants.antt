-- `stop_spare::taken` meets its contract: no test slice passed over equals the pattern, so what is left decides. Assumes nothing.
use mathlib.Core.Path.{◌≡◌}
use Prim.Native.Nat.{◌≤◌, min}
use lib.ListN.{length}
use Rattle.words_bounded.specs.Bounded.{any}
use Rattle.machine_slices.specs.Slices.{paired}
use Rattle.stop_spare.specs.Spare.{equals}
use Rattle.stop_spare.proofs.Lookup.{rest}
use Rattle.stop_spare.proofs.taken.Given as goal

abbrev pub invariant-loop-i : goal.invariant-loop-i
invariant-loop-i l = (l.slices ≡ min (length l.specified) (length l.bits)) × (l.i ≤ l.slices) × (any (equals l.pattern) (paired l.specified l.bits) ≡ rest l.pattern l.specified l.bits l.i)
