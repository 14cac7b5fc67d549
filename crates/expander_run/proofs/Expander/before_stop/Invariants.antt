-- `expander_run::Expander::before_stop` meets its contract: t slices have come before the stop. Assumes nothing.
use Rattle.machine_settings.specs.Machine.{machine}
use Rattle.expander_meaning.proofs.Running.{Counted}
use Rattle.expander_run.proofs.Expander.before_stop.Given as goal

abbrev pub invariant-loop-t : goal.invariant-loop-t
invariant-loop-t l = Counted (machine l.self.settings l.self.masks.now) l.self.stop l.looked l.seed l.t l.state
