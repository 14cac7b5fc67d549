-- `machine_slices::shows` meets its contract. Assumes nothing.
use Rattle.machine_slices.specs.Slices.{shows}
use Rattle.machine_slices.proofs.shows.Goals as goal

pub returns : goal.returns
unfolding shows
returns c = c.agrees.ensures
