-- `encoder_gathering::gather` meets its contract. Assumes nothing.
use Prim.Native.Nat.{◌-◌}
use Rattle.encoder_gathering.proofs.Gathering.{Gathering}
use Rattle.machine_settings.specs.Machine.{machine}
use Rattle.machine_slices.specs.Slices.{paired}
use Rattle.theory_covering.specs.Rules.{segment_rules}
use Rattle.encoder_gathering.proofs.gather.Given as goal

abbrev pub invariant-loop-place : goal.invariant-loop-place
invariant-loop-place l =
    Gathering (machine l.sought.settings l.masks) (segment_rules l.sought.settings l.sought.stop l.sought.closing) (paired l.specified l.bits) l.initial.seeds (record { place = l.initial.place; count = l.initial.count }) l.place l.count l.seeds

abbrev pub decreases-loop-place : goal.decreases-loop-place
decreases-loop-place l =
    l.slices - l.place
