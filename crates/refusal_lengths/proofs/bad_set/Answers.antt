-- `refusal_lengths::bad_set` meets its contract. Assumes nothing.
use mathlib.Core.Bool.{not}
use mathlib.Core.Path.{ap}
use Rattle.refusal_lengths.specs.Lengths.{bad_set}
use Rattle.refusal_lengths.proofs.bad_set.Goals as goal

pub returns : goal.returns
unfolding bad_set
returns c = ap not c.within.ensures
