-- `text_entries::settings` meets its contract. Assumes nothing.
use mathlib.Core.Path.{refl}
use Rattle.text_entries.proofs.settings.Goals as goal

pub returns : goal.returns
returns c = rw (← c.number-cells.ensures, ← c.number-taps.ensures, ← c.number-limit.ensures, ← c.number-invert.ensures) refl
