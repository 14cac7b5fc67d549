-- `machine_slices::agrees` meets its contract. Assumes nothing.
use borrow.Author.Rules.{rules}
use Rattle.machine_slices.specs.Slices.{agrees}
use Rattle.machine_slices.proofs.agrees.Goals as goal

pub returns : goal.returns
unfolding agrees
returns c = search rules
