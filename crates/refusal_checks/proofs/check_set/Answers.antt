-- `refusal_checks::check_set` meets its contract. Assumes nothing.
use Rattle.refusal_checks.specs.Calls.{set_faults}
use Rattle.refusal_checks.proofs.check_set.Goals as goal

pub returns : goal.returns
unfolding set_faults
returns c = rw (← c.bad_stop.ensures, ← c.bad_slices.ensures, ← c.bad_set.ensures) c.check_call.ensures
