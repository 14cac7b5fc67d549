-- `search_pivot::splits` meets its contract. Assumes nothing.
use mathlib.Core.Path.{ap, ◌∙◌}
use Rattle.std.specs.Prelude.{is_some}
use Rattle.search_pivot.proofs.Taking.{splits_is}
use Rattle.search_pivot.proofs.splits.Goals as goal

pub returns : goal.returns
returns c =
    let a = c.args in
    c.is_some.ensures ∙ ap is_some c.first_odd.ensures.first ∙ splits_is a.mask a.free a.vectors.now c.min-count.result c.min-count.ensures
