-- `search_branching::branch` meets its contract. Assumes nothing.
use mathlib.Core.Path.{◌≡◌}
use lib.ListN.{length, take}
use Rattle.search_branching.proofs.Branching.{Branched}
use Rattle.search_branching.proofs.+branch.Given as goal

abbrev pub decreases-branch : goal.decreases-branch
decreases-branch l = length (take l.free l.vectors)

abbrev pub invariant-loop-mask : goal.invariant-loop-mask
invariant-loop-mask l =
    (length l.rest ≡ 64) × Branched l.pattern l.table l.rows l.lowest (take l.initial.left l.initial.rest) l.initial.found l.masks (take l.left l.rest) l.found l.mask-index
