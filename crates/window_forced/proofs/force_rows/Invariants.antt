-- `window_forced::force_rows` meets its contract. Assumes nothing.
use lib.ListN.{take}
use Rattle.search_rows.specs.Rows.{clear}
use Rattle.window_forced.specs.Keeping.{Keeps}
use Rattle.window_forced.proofs.force_rows.Given as goal

abbrev pub invariant-loop-row : goal.invariant-loop-row
invariant-loop-row l = Keeps (clear l.pattern l.stops l.rows) l.initial.kept (take l.initial.kept.free l.initial.vectors) l.kept (take l.kept.free l.vectors)
