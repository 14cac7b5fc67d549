-- `window_lengths::length_seed` meets its contract. Assumes nothing.
use native.Mathlib.Omega.{arith}
use Rattle.window_lengths.proofs.length_seed.Goals as goal

pub lowest_covering-requires : goal.lowest_covering-requires
lowest_covering-requires c =
    let a = c.args in record { ready = c.requires.ready; slices = c.requires.slices; met = rw c.load-vectors.ensures (c.requires.held.1 (omega arith)) }
