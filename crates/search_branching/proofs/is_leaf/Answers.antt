-- `search_branching::is_leaf` meets its contract. Assumes nothing.
use mathlib.Core.Path.{refl, sym, ◌∙◌}
use mathlib.Core.Bool.{false}
use Rattle.words_bounded.proofs.Tests.{within_yes, clash}
use Rattle.search_branching.proofs.is_leaf.Goals as goal

pub returns-then-within : goal.returns-then-within
returns-then-within c =
    λ e.
    let a = c.args in
    let f = within_yes 6 12 a.free (sym c.within.ensures ∙ c.if-within.true) in
    let k = within_yes 2 64 a.pattern.columns (sym c.within-then-within.ensures ∙ e) in
    record { six = f.0; few = f.1; two = k.0; word = k.1 }

pub returns : goal.returns
returns c = λ e. absurd (clash false e refl)
