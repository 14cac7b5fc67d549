-- `machine_inversion::flip` meets its contract. Assumes nothing.
use Rattle.machine_inversion.specs.Inversion.{flipped}
use borrow.Author.Rules.{rules}
use Rattle.machine_inversion.proofs.flip.Goals as goal

pub returns : goal.returns
unfolding flipped
returns c = search rules
