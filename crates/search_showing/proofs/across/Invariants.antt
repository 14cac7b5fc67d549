-- `search_showing::across` meets its contract. Assumes nothing.
use mathlib.Core.Path.{◌≡◌}
use lib.ListN.{drop, take}
use Rattle.search_rows.specs.Rows.{row as row_of}
use Rattle.search_showing.specs.Showing.{across as across_of, together as together_of}
use Rattle.search_showing.proofs.across.Given as goal

abbrev pub invariant-loop-mask : goal.invariant-loop-mask
invariant-loop-mask l =
    across_of (row_of l.columns l.table l.row) l.initial.bits l.lowest (take l.free l.vectors) ≡ together_of l.shows (across_of (drop l.mask-index l.masks) l.bits l.lowest (take l.free l.vectors))
