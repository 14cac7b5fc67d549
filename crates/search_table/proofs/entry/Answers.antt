-- `search_table::entry` meets its contract. Assumes nothing.
use mathlib.Core.Path.{◌∙◌}
use native.Mathlib.Omega.{arith}
use Rattle.search_table.proofs.Filling.{entry_first, entry_next}
use Rattle.search_table.proofs.entry.Goals as goal

pub returns-then-place-chains : goal.returns-then-place-chains
returns-then-place-chains c =
    let a = c.args in
    entry_first a.taps a.masks.now a.table.now a.place (omega arith)

pub returns-else-place-chains : goal.returns-else-place-chains
returns-else-place-chains c =
    let a = c.args in
    c.pull.ensures ∙ entry_next a.taps a.masks.now a.table.now a.place (omega arith)
