-- `window_longest::reach_with` meets its contract. Assumes nothing.
use mathlib.Core.Path.{sym}
use native.Mathlib.Omega.{arith}
use native.Mathlib.Nat.{suc-mul, mul-le-mul_right}
use lib.ListN.{length, take, length-take}
use lib.Seq.{length-take-le}
use Rattle.machine_register.proofs.Causes.{cells_within}
use Rattle.machine_slices.proofs.Causes.{slices_equal}
use Rattle.machine_slices.proofs.Formed.{slices_length, slices_take}
use Rattle.window_longest.proofs.Parts.{grown_part}
use Rattle.window_longest.proofs.reach_with.Goals as goal

pub slice_bounds-grow-end : goal.slice_bounds-grow-end
slice_bounds-grow-end c =
    let a = c.args in
    sym (length-take-le a.quiet a.specified.now (omega (arith, c.requires.quiet.within, slices_length (length a.masks.now) a.specified.now a.bits.now c.requires.slices)))

pub slice_bounds-grow-end-2 : goal.slice_bounds-grow-end-2
slice_bounds-grow-end-2 c =
    let a = c.args in
    sym (length-take-le a.quiet a.bits.now (omega (arith, c.requires.quiet.within, slices_length (length a.masks.now) a.specified.now a.bits.now c.requires.slices, slices_equal (length a.masks.now) a.specified.now a.bits.now c.requires.slices)))

pub grow-met-requires : goal.grow-met-requires
grow-met-requires c =
    let a = c.args in record { slices = slices_take (length a.masks.now) a.quiet a.specified.now a.bits.now c.requires.slices; table = omega (arith, mul-le-mul_right {m = length (take a.quiet a.specified.now)} {n = length a.specified.now} (length a.masks.now) (omega (arith, length-take a.quiet a.specified.now)), suc-mul (length a.specified.now) (length a.masks.now), c.requires.ready.table.long); space = (cells_within a.sought.settings.cells a.sought.settings.taps c.requires.ready.register).1 }

pub descend-requires : goal.descend-requires
descend-requires c =
    let a = c.args in
    let g = c.grow-met in record { ready = c.requires.ready; slices = c.requires.slices; grown = grown_part (length a.masks.now) a.table.now a.sought.pattern a.stops.now a.specified.now a.bits.now c.requires.slices a.sought.settings.cells _ a.quiet g.result c.requires.quiet g.ensures }
