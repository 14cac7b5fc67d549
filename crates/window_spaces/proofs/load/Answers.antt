-- `window_spaces::load` meets its contract. Assumes nothing.
use mathlib.Core.Path.{refl}
use Rattle.window_spaces.proofs.Storing.{held_load}
use Rattle.window_spaces.proofs.load.Goals as goal

pub returns : goal.returns
returns c =
    let a = c.args in
    rw c.min-count.ensures (held_load a.spaces.now c.copy_from_slice.new.self _ a.place a.free c.requires refl (rw c.min-count.ensures at c.copy_from_slice.ensures.after))
