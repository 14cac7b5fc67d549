-- `window_lowest::found_anew` meets its contract. Assumes nothing.
use Rattle.window_lowest.proofs.found_anew.Goals as goal

pub lowest_covering-requires : goal.lowest_covering-requires
lowest_covering-requires c =
    record { ready = c.requires.tables_for; slices = c.requires.bits_value; met = rw c.units-vectors.ensures at c.fit-met.ensures }
