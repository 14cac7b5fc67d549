-- `machine_chains::bad_count` meets its contract. Assumes nothing.
use mathlib.Core.Bool.{not}
use mathlib.Core.Path.{ap}
use Rattle.machine_chains.specs.Chains.{bad_count}
use Rattle.machine_chains.proofs.bad_count.Goals as goal

pub returns : goal.returns
unfolding bad_count
returns c = ap not c.within.ensures
