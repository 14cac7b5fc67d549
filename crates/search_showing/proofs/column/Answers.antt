-- `search_showing::column` meets its contract. Assumes nothing.
use mathlib.Core.Path.{sym, ◌∙◌}
use lib.ListN.{take}
use Rattle.search_showing.proofs.Columns.{column-splits, column-reads, column_differs}
use Rattle.search_showing.proofs.column.Goals as goal

pub returns-then-splits : goal.returns-then-splits
returns-then-splits c =
    let a = c.args in
    sym (column-splits a.mask a.bit a.lowest (take a.free a.vectors.now) (sym c.splits.ensures ∙ c.if-splits.true))

pub returns-then-odd-bit : goal.returns-then-odd-bit
returns-then-odd-bit c =
    let a = c.args in
    sym (column-reads a.mask a.bit a.lowest (take a.free a.vectors.now) (sym c.splits.ensures ∙ c.if-splits.false) (sym c.odd.ensures ∙ c.if-odd-bit.true))

pub returns : goal.returns
returns c =
    let a = c.args in
    sym (column_differs a.mask a.bit a.lowest (take a.free a.vectors.now) (sym c.splits.ensures ∙ c.if-splits.false) (λ e. c.if-odd-bit.false (c.odd.ensures ∙ e)))
