-- `refusal_lengths::bad_limit` meets its contract. Assumes nothing.
use mathlib.Core.Bool.{not}
use mathlib.Core.Path.{ap}
use Rattle.refusal_lengths.specs.Lengths.{bad_limit}
use Rattle.refusal_lengths.proofs.bad_limit.Goals as goal

pub returns : goal.returns
unfolding bad_limit
returns c = ap not c.within.ensures
