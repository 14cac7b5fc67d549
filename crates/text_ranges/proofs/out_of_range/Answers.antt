-- `text_ranges::out_of_range` meets its contract. Assumes nothing.
use mathlib.Core.Path.{sym, ap, ◌∙◌}
use Rattle.text_keys.specs.Keys.{most, range}
use Rattle.text_ranges.specs.Ranges.{outside}
use Rattle.text_ranges.proofs.Ranging.{range_many, range-own}
use Rattle.text_ranges.proofs.out_of_range.Goals as goal

pub returns-then-most-run_of : goal.returns-then-most-run_of
unfolding most
returns-then-most-run_of c = sym (range_many _ _ _ (rw (← c.run_of.ensures, ← (ap (λ x. x.0) c.bounds_of-most.ensures)) c.if-most-run_of.true))

pub returns : goal.returns
unfolding most range
returns c =
    let q = c.bounds_of-most.ensures in
    let a = c.args in
    c.outside.ensures ∙ ap (λ x. outside a.place x.1 a.v) q ∙ sym (range-own a.place a.key a.v (rw (← c.run_of.ensures, ← (ap (λ x. x.0) q)) c.if-most-run_of.false))
