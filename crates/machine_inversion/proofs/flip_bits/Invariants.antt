-- `machine_inversion::flip_bits` meets its contract. Assumes nothing.
use Rattle.machine_inversion.proofs.Flipping.{Flipping}
use Rattle.machine_inversion.proofs.flip_bits.Given as goal

abbrev pub invariant-loop-i : goal.invariant-loop-i
invariant-loop-i l = Flipping l.invert l.specified l.bits l.initial.out l.i l.out
