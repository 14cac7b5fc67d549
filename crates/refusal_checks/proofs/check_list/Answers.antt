-- `refusal_checks::check_list` meets its contract. Assumes nothing.
use Rattle.refusal_checks.specs.Calls.{list_faults}
use Rattle.refusal_checks.proofs.check_list.Goals as goal

pub returns : goal.returns
unfolding list_faults
returns c = rw (← c.bad_stop.ensures, ← c.bad_list.ensures) c.check_call.ensures
