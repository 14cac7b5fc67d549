-- `refusal_checks::check_window` meets its contract. Assumes nothing.
use Rattle.refusal_checks.specs.Calls.{window_faults}
use Rattle.refusal_checks.proofs.check_window.Goals as goal

pub returns : goal.returns
unfolding window_faults
returns c = rw (← c.bad_stop.ensures, ← c.bad_slices.ensures, ← c.bad_window.ensures) c.check_call.ensures
