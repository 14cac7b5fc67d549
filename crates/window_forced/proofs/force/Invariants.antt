-- `window_forced::force` meets its contract. Assumes nothing.
use lib.ListN.{take}
use Rattle.search_rows.specs.Rows.{clear}
use Rattle.window_forced.specs.Keeping.{Keeps}
use Rattle.window_forced.proofs.force.Given as goal

abbrev pub invariant-loop-kept : goal.invariant-loop-kept
invariant-loop-kept l = Keeps (clear l.pattern l.stops l.rows) l.initial.kept (take l.initial.kept.free l.initial.vectors) l.kept (take l.kept.free l.vectors)

abbrev pub decreases-loop-kept : goal.decreases-loop-kept
decreases-loop-kept l = l.free
