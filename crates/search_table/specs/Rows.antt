-- The table of a call: row t holds the chains' masks pulled back through t steps, so that they read in a seed what the chains' bits are in its slice t.
--     rows_of taps n masks     the first n rows, one after the other
use Rattle.std.specs.Prelude.{List, [], ◌++◌, map, ℕ, zero, suc}
use Rattle.machine_register.specs.Register.{pull}

unfoldable pub rows_of : ℕ → ℕ → List ℕ → List ℕ
rows_of taps zero masks = []
rows_of taps (suc n) masks = masks ++ rows_of taps n (map (pull taps) masks)
