-- `machine_settings::slice` meets its contract. Assumes nothing.
use mathlib.Core.Path.{refl}
use Rattle.machine_settings.proofs.slice.Goals as goal

pub returns : goal.returns
returns c = rw c.slice.ensures refl
