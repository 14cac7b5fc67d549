-- `expander_writing::write_run` meets its contract: what is written and what follows up to the stop are the whole run. Assumes nothing.
use Rattle.machine_settings.specs.Machine.{machine}
use Rattle.expander_writing.proofs.Writing.{Writes}
use Rattle.expander_writing.proofs.write_run.Given as goal

abbrev pub invariant-loop-i : goal.invariant-loop-i
invariant-loop-i l = Writes (machine l.expander.settings l.expander.masks.now) l.expander.stop l.seed l.at l.slices l.initial.out l.i l.state l.out
