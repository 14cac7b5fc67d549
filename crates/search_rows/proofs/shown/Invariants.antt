-- `search_rows::shown` meets its contract. Assumes nothing.
use mathlib.Core.Path.{◌≡◌}
use lib.ListN.{drop}
use Rattle.search_rows.specs.Rows.{reads as reads_of, row as row_of}
use Rattle.search_rows.proofs.shown.Given as goal

abbrev pub invariant-loop-mask : goal.invariant-loop-mask
invariant-loop-mask l = reads_of (row_of l.columns l.table l.row) l.initial.bits l.state ≡ reads_of (drop l.mask-index l.mask-items) l.bits l.state
