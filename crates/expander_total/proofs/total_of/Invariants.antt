-- `expander_total::total_of` meets its contract: the seeds passed have delivered the total so far. Assumes nothing.
use Prim.Native.Nat.{◌*◌, ◌≤◌}
use Rattle.expander_total.proofs.Tallying.{Tallied}
use Rattle.expander_total.proofs.total_of.Given as goal

abbrev pub invariant-loop-place : goal.invariant-loop-place
invariant-loop-place l = (l.total ≤ l.place * 256) × Tallied l.expander.settings l.expander.masks.now l.expander.stop l.seeds l.slices l.place l.total
