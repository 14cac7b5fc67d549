-- `machine_inversion::flip_bits` meets its contract. Assumes nothing.
use native.Mathlib.Omega.{arith}
use Rattle.machine_inversion.proofs.Flipping.{flipping_start, flipping_step, flipping_end}
use Rattle.machine_inversion.proofs.flip_bits.Goals as goal

pub loop-i-init : goal.loop-i-init
loop-i-init c =
    flipping_start c.args.invert c.args.specified.now c.args.bits.now c.args.out.now c.requires.0

pub loop-i-preserved : goal.loop-i-preserved
loop-i-preserved c =
    let a = c.args in
    let l = c.loop-i in
    rw c.flip.ensures (flipping_step a.invert a.specified.now a.bits.now a.out.now c.requires.0 l.i l.out (omega arith) l.invariant)

pub returns : goal.returns
returns c =
    let a = c.args in
    let l = c.loop-i in
    flipping_end a.invert a.specified.now a.bits.now a.out.now c.requires.0 l.i l.out (omega arith) c.requires.1 l.invariant
