-- `window_rows::meet_row` meets its contract. Assumes nothing.
use mathlib.Core.Path.{sym}
use Rattle.search_rows.proofs.Reading.{row-length}
use Rattle.window_rows.proofs.Fitting.{row_part}
use Rattle.window_rows.proofs.meet_row.Goals as goal

pub meet-requires : goal.meet-requires
meet-requires c =
    rw (row_part c.args.chains c.args.table.now c.args.row, row-length c.args.chains c.args.table.now c.args.row c.requires.chains_in_bounds) c.requires.specified_bound

pub returns : goal.returns
returns c =
    rw (c.in_ok-space.was, sym (row_part c.args.chains c.args.table.now c.args.row)) c.meet.ensures
