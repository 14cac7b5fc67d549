-- `refusal_checks::check_stop` meets its contract. Assumes nothing.
use Rattle.refusal_checks.specs.Calls.{stop_faults}
use Rattle.refusal_checks.proofs.check_stop.Goals as goal

pub returns : goal.returns
unfolding stop_faults
returns c =
    rw (← c.bad_slices.ensures, ← c.bad_set.ensures, ← c.bad_count.ensures)
    c.judge.ensures
