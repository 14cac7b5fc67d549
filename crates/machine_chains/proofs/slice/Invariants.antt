-- `machine_chains::slice` meets its contract: the masks behind those that are left have given their bits. Assumes nothing.
use Rattle.std.specs.Iterator.Adapters.{rev_source}
use Rattle.std.specs.Slice.Iter.{iter_rest}
use Rattle.machine_chains.proofs.Slices.{Read}
use Rattle.machine_chains.proofs.slice.Given as goal

abbrev pub invariant-loop-mask : goal.invariant-loop-mask
invariant-loop-mask l = Read l.masks l.state (iter_rest (rev_source l.mask-iterator)) l.bits
