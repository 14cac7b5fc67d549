-- `refusal_checks::check_call` meets its contract. Assumes nothing.
use Rattle.refusal_checks.specs.Calls.{call_faults}
use Rattle.refusal_checks.proofs.check_call.Goals as goal

pub returns : goal.returns
unfolding call_faults
returns c = rw (← c.bad_lengths.ensures, ← c.bad_chains.ensures, ← c.bad_register.ensures) c.judge.ensures
