-- `window_lengths::descend` meets its contract. Assumes nothing.
use mathlib.Core.Bool.{◌||◌}
use lib.Dec.{ltb}
use lib.ListN.{length, take}
use lib.Seq.{length-take-le}
use Rattle.machine_slices.proofs.Causes.{slices_equal}
use Rattle.machine_slices.proofs.Formed.{slices_length, slices_take}
use Rattle.window_tables.proofs.Tables.{tables_fewer}
use Rattle.window_growing.proofs.Growing.{held_part}
use native.Mathlib.Omega.{arith}
use mathlib.Core.Path.{◌≡◌, sym, ◌∙◌}
use Prim.Native.Nat.{suc, ◌≤◌}
use Rattle.machine_settings.specs.Machine.{machine}
use Rattle.machine_slices.specs.Slices.{paired}
use Rattle.window_lengths.proofs.Reaching.{passed_start, passed_next, tried, reach-found, reach-none}
use Rattle.window_lengths.proofs.descend.Goals as goal
use Rattle.window_lengths.proofs.descend.Goals.{then-sought, else-sought}

pub loop-slices-init : goal.loop-slices-init
loop-slices-init c =
    let a = c.args in
    passed_start a.sought.settings a.masks.now a.sought.stop a.sought.pattern a.table.now a.stops.now a.specified.now a.bits.now c.requires.ready c.requires.slices a.sought.closing a.most c.requires.grown.most

pub slice_bounds-length_seed-end : goal.slice_bounds-length_seed-end
slice_bounds-length_seed-end c =
    let a = c.args in
    let l = c.loop-slices in
    sym (length-take-le l.slices a.specified.now (omega (arith, l.invariant.within, slices_length (length a.masks.now) a.specified.now a.bits.now c.requires.slices)))

pub slice_bounds-length_seed-end-in-loop-slices : goal.slice_bounds-length_seed-end-in-loop-slices
slice_bounds-length_seed-end-in-loop-slices c =
    let a = c.args in
    let l = c.loop-slices in
    sym (length-take-le l.slices a.bits.now (omega (arith, l.invariant.within, slices_length (length a.masks.now) a.specified.now a.bits.now c.requires.slices, slices_equal (length a.masks.now) a.specified.now a.bits.now c.requires.slices)))

pub length_seed-found-requires : goal.length_seed-found-requires
length_seed-found-requires c =
    let a = c.args in
    let l = c.loop-slices in
    let h : l.slices ≤ length a.specified.now = omega (arith, l.invariant.within, slices_length (length a.masks.now) a.specified.now a.bits.now c.requires.slices) in
    let n = length-take-le l.slices a.specified.now h in record {
      ready = tables_fewer a.sought.settings a.masks.now a.sought.stop a.sought.pattern a.table.now a.stops.now (suc (length (take l.slices a.specified.now))) (suc (length a.specified.now)) (omega arith) c.requires.ready;
      slices = slices_take (length a.masks.now) l.slices a.specified.now a.bits.now c.requires.slices;
      held = (
        omega arith,
        λ q. held_part (length a.masks.now) a.table.now a.specified.now a.bits.now a.sought.settings.cells a.spaces.now l.slices h (c.requires.grown.held l.slices (omega arith) (omega arith) (omega arith)),
      );
    }

pub returns-in-Some : goal.returns-in-Some
returns-in-Some c =
    let a = c.args in
    let l = c.loop-slices in
    let j = c.if-sought in
    let f = c.length_seed-found in
    let e : j.closing ≡ (a.sought.closing || ltb l.slices (length a.specified.now)) = elim j.branch [ then-sought v ↦ rw (v.closing-is, v.if-sought.true) | else-sought v ↦ rw (v.closing-is, v.if-sought.false) ] in
    let t = tried a.sought.settings a.masks.now a.sought.stop a.sought.pattern a.table.now a.stops.now a.specified.now a.bits.now c.requires.ready c.requires.slices a.sought.closing l.slices j.closing e in
    reach-found (machine a.sought.settings a.masks.now) a.sought.stop a.sought.closing (paired a.specified.now a.bits.now) l.slices _ (omega arith) l.invariant (sym t ∙ (sym f.ensures ∙ c.in-Some.is))

pub loop-slices-preserved : goal.loop-slices-preserved
loop-slices-preserved c =
    let a = c.args in
    let l = c.loop-slices in
    let j = c.if-sought in
    let f = c.length_seed-found in
    let e : j.closing ≡ (a.sought.closing || ltb l.slices (length a.specified.now)) = elim j.branch [ then-sought v ↦ rw (v.closing-is, v.if-sought.true) | else-sought v ↦ rw (v.closing-is, v.if-sought.false) ] in
    let t = tried a.sought.settings a.masks.now a.sought.stop a.sought.pattern a.table.now a.stops.now a.specified.now a.bits.now c.requires.ready c.requires.slices a.sought.closing l.slices j.closing e in
    passed_next (machine a.sought.settings a.masks.now) a.sought.stop a.sought.closing (paired a.specified.now a.bits.now) l.slices (omega arith) l.invariant (sym t ∙ (sym f.ensures ∙ c.in_default.is))

pub returns : goal.returns
returns c =
    let a = c.args in
    reach-none (machine a.sought.settings a.masks.now) a.sought.stop a.sought.closing (paired a.specified.now a.bits.now) c.loop-slices.slices (omega arith) c.loop-slices.invariant
