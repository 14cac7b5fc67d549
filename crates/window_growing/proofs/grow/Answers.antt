-- `window_growing::grow` meets its contract. Assumes nothing.
use borrow.Author.Rules.{rules}
use native.Mathlib.Omega.{arith}
use lib.ListN.{length, take}
use Rattle.machine_slices.specs.Slices.{paired}
use Rattle.machine_slices.proofs.Causes.{slices_equal}
use Rattle.window_rows.specs.Narrowing.{all_states, units_of}
use Rattle.window_rows.proofs.Fitting.{row_asked, fitted_next}
use Rattle.window_growing.proofs.Growing.{growing_start, growing_next, growing_beyond, grown_stop, grown_end}
use Rattle.window_growing.proofs.grow.Goals as goal
use Rattle.window_growing.proofs.grow.Goals.{then-slice-places, else-slice-places}

pub loop-slice-init : goal.loop-slice-init
loop-slice-init c =
    let a = c.args in
    rw c.units-vectors.ensures (growing_start a.chains a.table.now (paired a.specified.now a.bits.now) a.cells a.spaces.now)

pub bounds-bits-slice : goal.bounds-bits-slice
bounds-bits-slice c =
    let a = c.args in
    omega (arith, slices_equal a.chains a.specified.now a.bits.now c.requires.slices, c.loop-slice-test.true)

pub meet_row-met-requires : goal.meet_row-met-requires
meet_row-met-requires c =
    let a = c.args in let w = row_asked a.chains a.table.now a.specified.now a.bits.now c.requires.slices c.requires.table c.loop-slice.slice c.loop-slice-test.true in record { specified_bound = w.0; chains_in_bounds = w.1 }

pub returns-in_default : goal.returns-in_default
returns-in_default c =
    let a = c.args in
    let l = c.loop-slice in
    grown_stop a.chains a.table.now a.specified.now a.bits.now c.requires.slices a.cells c.requires.space (length a.spaces.now) l.slice l.kept (take l.kept.free l.vectors) l.spaces c.meet_row-met.new.vectors c.loop-slice-test.true l.invariant c.in_default.ensures

pub store-requires : goal.store-requires
store-requires c = record { place_in_bounds = omega (arith, c.loop-slice.invariant.long); vectors_len = search rules }

pub loop-slice-preserved : goal.loop-slice-preserved
loop-slice-preserved c =
    let a = c.args in
    let l = c.loop-slice in
    let w = paired a.specified.now a.bits.now in
    let z = c.in-Some.left in
    let ws = take z.free c.meet_row-met.new.vectors in
    let f = fitted_next a.chains a.table.now a.specified.now a.bits.now c.requires.slices (all_states a.cells) (units_of a.cells) l.slice l.kept (take l.kept.free l.vectors) z ws c.loop-slice-test.true l.invariant.fitted c.in-Some.ensures in
    elim c.if-slice-places.branch [
      | then-slice-places v ↦ rw v.spaces-is (growing_next a.chains a.table.now w a.cells (length a.spaces.now) l.slice l.kept (take l.kept.free l.vectors) l.spaces l.invariant z ws f v.store.new.spaces v.store.auto.spaces v.store.ensures.before v.store.ensures.space)
      | else-slice-places v ↦ rw v.spaces-is (growing_beyond a.chains a.table.now w a.cells (length a.spaces.now) l.slice l.kept (take l.kept.free l.vectors) l.spaces l.invariant z ws f (omega (arith, v.if-slice-places.false)))
    ]

pub returns : goal.returns
returns c =
    let a = c.args in
    let l = c.loop-slice in
    grown_end a.chains a.table.now a.specified.now a.bits.now c.requires.slices a.cells c.requires.space (length a.spaces.now) l.slice l.kept (take l.kept.free l.vectors) l.spaces (omega arith) (omega arith) l.invariant
