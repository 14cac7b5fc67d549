-- `window_quiet::most_quiet` meets its contract. Assumes nothing.
use Rattle.machine_slices.specs.Slices.{paired}
use native.Mathlib.Omega.{arith}
use mathlib.Core.Path.{sym}
use lib.ListN.{length, take}
use Rattle.machine_slices.proofs.Causes.{slices_equal}
use Rattle.machine_slices.proofs.Formed.{slices_length}
use Rattle.search_rows.proofs.Reading.{row_fits}
use Rattle.window_quiet.specs.Quiet.{quiet_meet}
use Rattle.window_rows.proofs.Fitting.{row_asked, most_end}
use Rattle.window_quiet.proofs.Quiet.{quiet-start, quiet_next_if, quiet_stop_if}
use Rattle.window_quiet.proofs.most_quiet.Goals as goal

pub loop-slice-init : goal.loop-slice-init
loop-slice-init c =
    let a = c.args in
    rw c.units-vectors.ensures (quiet-start a.chains a.table.now a.pattern a.stops.now a.specified.now a.bits.now c.requires.slices a.cells c.requires.stops.0)

pub bounds-bits-slice : goal.bounds-bits-slice
bounds-bits-slice c =
    let a = c.args in
    omega (arith, slices_equal a.chains a.specified.now a.bits.now c.requires.slices, c.loop-slice-test.true)

pub meet_row-met-requires : goal.meet_row-met-requires
meet_row-met-requires c =
    let a = c.args in let w = row_asked a.chains a.table.now a.specified.now a.bits.now c.requires.slices c.requires.table c.loop-slice.slice c.loop-slice-test.true in record { specified_bound = w.0; chains_in_bounds = w.1 }

pub force_row-forced-requires : goal.force_row-forced-requires
force_row-forced-requires c =
    let a = c.args in
    row_fits c.loop-slice.slice (length a.specified.now) a.pattern.columns (length a.stops.now) c.loop-slice-test.true c.requires.stops.1

pub returns-in_default : goal.returns-in_default
returns-in_default c =
    let a = c.args in
    let l = c.loop-slice in
    let m = c.meet_row-met in
    quiet_stop_if a.chains a.table.now a.pattern a.stops.now a.specified.now a.bits.now c.requires.slices a.cells l.slice l.kept (take l.kept.free l.vectors) c.loop-slice-test.true l.invariant m.new.vectors m.result m.ensures c.in_default.ensures.answer

pub loop-slice-preserved : goal.loop-slice-preserved
loop-slice-preserved c =
    let a = c.args in
    let l = c.loop-slice in
    let m = c.meet_row-met in
    let e = c.in-Some.ensures in
    quiet_next_if a.chains a.table.now a.pattern a.stops.now a.specified.now a.bits.now c.requires.slices a.cells l.slice l.kept (take l.kept.free l.vectors) c.loop-slice-test.true l.invariant m.new.vectors m.result m.ensures c.in-Some.quiet c.force_row-forced.new.vectors e.answer e.buffer

pub returns : goal.returns
returns c =
    let a = c.args in
    most_end (quiet_meet a.chains a.table.now a.pattern a.stops.now) (paired a.specified.now a.bits.now) a.cells (length a.specified.now) (sym (slices_length a.chains a.specified.now a.bits.now c.requires.slices))
