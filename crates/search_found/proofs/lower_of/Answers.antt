-- `search_found::lower_of` meets its contract. Assumes nothing.
use Rattle.search_found.proofs.Finding.{lower-reached, lower_not}
use mathlib.Core.Path.{sym, ◌∙◌}
use Rattle.search_found.proofs.lower_of.Goals as goal

pub returns-then-reached : goal.returns-then-reached
returns-then-reached c =
    let a = c.args in
    sym (lower-reached a.before a.state (sym c.reached.ensures ∙ c.if-reached.true))

pub returns-else-reached : goal.returns-else-reached
returns-else-reached c =
    let a = c.args in
    sym (lower_not a.before a.state (sym c.reached.ensures ∙ c.if-reached.false))
