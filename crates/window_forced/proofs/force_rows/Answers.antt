-- `window_forced::force_rows` meets its contract. Assumes nothing.
use Rattle.std.specs.Prelude.{None, Some}
use native.Mathlib.Omega.{arith}
use lib.ListN.{length, take}
use Rattle.search_rows.specs.Rows.{clear}
use Rattle.search_rows.proofs.Reading.{row_fits}
use Rattle.window_forced.proofs.Keeping.{keeps_none, kept_next}
use Rattle.window_forced.proofs.force_rows.Goals as goal

pub loop-row-init : goal.loop-row-init
loop-row-init c =
    let a = c.args in
    keeps_none (clear a.pattern a.stops.now a.rows) a.space (take a.space.free a.vectors.now)

pub force_row-requires : goal.force_row-requires
force_row-requires c =
    row_fits c.loop-row.row c.args.rows c.args.pattern.columns (length c.args.stops.now) (omega arith) c.requires

pub returns-in_err-kept : goal.returns-in_err-kept
returns-in_err-kept c =
    let a = c.args in
    let l = c.loop-row in
    let o = c.force_row in
    rw c.from_residual.ensures (kept_next a.pattern a.stops.now a.rows l.row l.kept l.vectors c.loop-row-test.true a.space (take a.space.free a.vectors.now) None o.new.vectors l.invariant (c.in_err-kept.ensures.answer, c.in_err-kept.ensures.buffer))

pub loop-row-preserved : goal.loop-row-preserved
loop-row-preserved c =
    let a = c.args in
    let l = c.loop-row in
    let o = c.force_row in
    kept_next a.pattern a.stops.now a.rows l.row l.kept l.vectors c.loop-row-test.true a.space (take a.space.free a.vectors.now) (Some c.in_ok-kept.kept) o.new.vectors l.invariant (c.in_ok-kept.ensures.answer, c.in_ok-kept.ensures.buffer)
