-- `refusal_lengths::bad_window` meets its contract. Assumes nothing.
use mathlib.Core.Bool.{not}
use mathlib.Core.Path.{ap}
use Rattle.refusal_lengths.specs.Lengths.{bad_window}
use Rattle.refusal_lengths.proofs.bad_window.Goals as goal

pub returns : goal.returns
unfolding bad_window
returns c = ap not c.within.ensures
