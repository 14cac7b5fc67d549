-- `search_table::fill` meets its contract. Assumes nothing.
use mathlib.Core.Path.{◌∙◌}
use native.Mathlib.Omega.{arith}
use Rattle.search_table.proofs.Filling.{filled_entry, filled_next, filled_end}
use Rattle.search_table.proofs.fill.Goals as goal

pub loop-place-preserved : goal.loop-place-preserved
loop-place-preserved c =
    let l = c.loop-place in
    let a = c.args in
    rw (c.entry.ensures ∙ filled_entry a.taps a.rows a.masks.now a.table.now c.requires l.table l.place l.invariant (omega arith))
    (filled_next a.taps a.rows a.masks.now a.table.now c.requires l.table l.place l.invariant (omega arith))

pub returns : goal.returns
returns c =
    filled_end c.args.taps c.args.rows c.args.masks.now c.args.table.now c.requires c.loop-place.table c.loop-place.place c.loop-place.invariant (omega arith)
