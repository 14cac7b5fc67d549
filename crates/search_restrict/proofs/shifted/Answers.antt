-- `search_restrict::shifted` meets its contract. Assumes nothing.
use mathlib.Core.Path.{sym, ◌∙◌}
use Rattle.search_restrict.proofs.Restricting.{shifted-same, shifted-other}
use Rattle.search_restrict.proofs.shifted.Goals as goal

pub returns-then-odd-wanted : goal.returns-then-odd-wanted
returns-then-odd-wanted c =
    let a = c.args in
    sym (shifted-same a.mask a.wanted a.lowest a.pivot (sym c.odd.ensures ∙ c.if-odd-wanted.true))

pub returns-else-odd-wanted : goal.returns-else-odd-wanted
returns-else-odd-wanted c =
    let a = c.args in
    sym (shifted-other a.mask a.wanted a.lowest a.pivot (λ e. c.if-odd-wanted.false (c.odd.ensures ∙ e)))
