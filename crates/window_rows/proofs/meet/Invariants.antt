-- `window_rows::meet` meets its contract. Assumes nothing.
use mathlib.Core.Path.{◌≡◌}
use Prim.Native.Nat.{◌-◌, ◌^◌, ◌<◌}
use lib.ListN.{length, take, drop}
use Rattle.window_rows.specs.Meeting.{meets}
use Rattle.window_rows.proofs.Narrowing.{Toward}
use Rattle.window_rows.proofs.meet.Given as goal

abbrev pub invariant-loop-left : goal.invariant-loop-left
invariant-loop-left l =
    (l.left < 2 ^ (length l.row - l.chain))
    × (length l.vectors ≡ length l.initial.vectors)
    × Toward (meets l.row l.initial.left l.initial.values) l.initial.kept (take l.initial.kept.free l.initial.vectors) (meets (drop l.chain l.row) l.left l.values) l.kept (take l.kept.free l.vectors)

abbrev pub decreases-loop-left : goal.decreases-loop-left
decreases-loop-left l =
    l.left
