-- `search_rows::first_shown` meets its contract. Assumes nothing.
use mathlib.Core.Path.{sym, ◌∙◌}
use native.Mathlib.Omega.{arith}
use Rattle.words_bounded.proofs.Search.{least_of, none_of}
use Rattle.search_rows.specs.First.{first_shown}
use Rattle.search_rows.proofs.first_shown.Goals as goal

pub returns-then-shown : goal.returns-then-shown
unfolding first_shown
returns-then-shown c =
    let l = c.loop-row in
    sym (least_of _ c.args.rows l.row (omega arith) l.invariant (sym c.shown.ensures ∙ c.if-shown.true))

pub returns : goal.returns
unfolding first_shown
returns c =
    let a = c.args in
    let l = c.loop-row in
    sym (none_of _ a.rows (λ k h. l.invariant k (omega arith)))
