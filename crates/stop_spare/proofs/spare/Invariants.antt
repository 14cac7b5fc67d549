-- `stop_spare::spare` meets its contract: each pattern passed over is taken. Assumes nothing.
use mathlib.Core.Path.{◌≡◌}
use Prim.Native.Nat.{◌^◌}
use Rattle.machine_slices.specs.Slices.{paired}
use Rattle.stop_spare.proofs.Search.{Passed}
use Rattle.stop_spare.proofs.spare.Given as goal

abbrev pub invariant-loop-candidate : goal.invariant-loop-candidate
invariant-loop-candidate l = (l.patterns ≡ 2 ^ l.chains) × Passed l.chains (paired l.specified l.bits) l.candidate
