-- `search_lowest::lowest_clear` meets its contract. Assumes nothing.
use mathlib.Core.Path.{sym, ◌∙◌}
use Rattle.search_lowest.proofs.lowest_clear.Goals as goal

pub returns-in-Some : goal.returns-in-Some
returns-in-Some c =
    let e = c.in-Some.is in
    sym e ∙ c.rise-found.ensures _ e

pub returns : goal.returns
returns c = c.branch-pattern.ensures
