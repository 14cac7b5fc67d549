-- `window_fitting::fit` meets its contract. Assumes nothing.
use native.Mathlib.Omega.{arith}
use lib.ListN.{take}
use Rattle.machine_slices.specs.Slices.{paired}
use Rattle.machine_slices.proofs.Causes.{slices_equal}
use Rattle.window_rows.proofs.Fitting.{row_asked, fitted_start, fitted_next, fitted_stop, fitted_end}
use Rattle.window_fitting.proofs.fit.Goals as goal

pub loop-slice-init : goal.loop-slice-init
loop-slice-init c =
    let a = c.args in
    let y = c.in_ok-kept.kept in
    fitted_start a.chains a.table.now (paired a.specified.now a.bits.now) y (take y.free a.vectors.now)

pub bounds-bits-slice : goal.bounds-bits-slice
bounds-bits-slice c =
    let a = c.args in
    omega (arith, slices_equal a.chains a.specified.now a.bits.now c.requires.bits_value)

pub meet_row-requires : goal.meet_row-requires
meet_row-requires c =
    let a = c.args in let w = row_asked a.chains a.table.now a.specified.now a.bits.now c.requires.bits_value c.requires.chains_in_bounds c.loop-slice.slice c.loop-slice-test.true in record { specified_bound = w.0; chains_in_bounds = w.1 }

pub returns-in_err-kept-2 : goal.returns-in_err-kept-2
returns-in_err-kept-2 c =
    let a = c.args in
    let y = c.in_ok-kept.kept in
    let l = c.loop-slice in
    let out = c.meet_row.new.vectors in
    rw (c.in_ok-kept.was, c.from_residual-in_err-kept-2.ensures) (fitted_stop a.chains a.table.now a.specified.now a.bits.now c.requires.bits_value y (take y.free a.vectors.now) l.slice l.kept (take l.kept.free l.vectors) out c.loop-slice-test.true l.invariant c.in_err-kept-2.ensures out)

pub loop-slice-preserved : goal.loop-slice-preserved
loop-slice-preserved c =
    let a = c.args in
    let y = c.in_ok-kept.kept in
    let l = c.loop-slice in
    let k = c.in_ok-kept-2.kept in
    fitted_next a.chains a.table.now a.specified.now a.bits.now c.requires.bits_value y (take y.free a.vectors.now) l.slice l.kept _ k (take k.free c.meet_row.new.vectors) c.loop-slice-test.true l.invariant c.in_ok-kept-2.ensures

pub returns : goal.returns
returns c =
    let a = c.args in
    let y = c.in_ok-kept.kept in
    let l = c.loop-slice in
    rw c.in_ok-kept.was (fitted_end a.chains a.table.now a.specified.now a.bits.now c.requires.bits_value y (take y.free a.vectors.now) l.slice l.kept (take l.kept.free l.vectors) (omega arith) l.invariant)
