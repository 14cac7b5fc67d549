-- `refusal_checks::check_cubes` meets its contract. Assumes nothing.
use Rattle.refusal_checks.specs.Calls.{cubes_faults}
use Rattle.refusal_checks.proofs.check_cubes.Goals as goal

pub returns : goal.returns
unfolding cubes_faults
returns c = rw (← c.bad_slices.ensures, ← c.bad_cubes.ensures) c.check_call.ensures
