-- `window_forced::force` meets its contract. Assumes nothing.
use Rattle.std.specs.Prelude.{None, Some}
use lib.ListN.{take}
use Rattle.search_rows.specs.Rows.{clear}
use Rattle.window_forced.proofs.Keeping.{keeps_none, kept_then}
use Rattle.window_forced.proofs.force.Goals as goal

pub loop-kept-init : goal.loop-kept-init
loop-kept-init c = keeps_none _ _ _

pub returns-in_err-kept-2 : goal.returns-in_err-kept-2
returns-in_err-kept-2 c =
    let a = c.args in
    let y = c.in_ok-space.space in
    let k = c.in_ok-kept.kept in
    let l = c.loop-kept in
    rw (c.in_ok-space.was, c.from_residual-in_err-kept-2.ensures) (kept_then (clear a.pattern a.stops.now a.rows) y (take y.free a.vectors.now) l.kept (take l.kept.free l.vectors) None c.force_rows-in-loop-kept.new.vectors
    (kept_then (clear a.pattern a.stops.now a.rows) y (take y.free a.vectors.now) k (take k.free c.force_rows.new.vectors) (Some l.kept) l.vectors c.in_ok-kept.ensures l.invariant) c.in_err-kept-2.ensures)

pub loop-kept-preserved : goal.loop-kept-preserved
loop-kept-preserved c =
    let a = c.args in
    let k = c.in_ok-kept.kept in
    let l = c.loop-kept in
    kept_then (clear a.pattern a.stops.now a.rows) k (take k.free c.force_rows.new.vectors) l.kept (take l.kept.free l.vectors) (Some c.in_ok-kept-2.kept) c.force_rows-in-loop-kept.new.vectors l.invariant c.in_ok-kept-2.ensures

pub returns : goal.returns
returns c =
    let a = c.args in
    let y = c.in_ok-space.space in
    let k = c.in_ok-kept.kept in
    let l = c.loop-kept in
    rw c.in_ok-space.was (kept_then (clear a.pattern a.stops.now a.rows) y (take y.free a.vectors.now) k (take k.free c.force_rows.new.vectors) (Some l.kept) l.vectors c.in_ok-kept.ensures l.invariant)
