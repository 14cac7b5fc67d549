-- `text_ranges::tested` meets its contract. Assumes nothing.
use mathlib.Core.Path.{sym, ap, ◌∙◌}
use Rattle.text_keys.specs.Keys.{cause}
use Rattle.text_lines.specs.declared.Line.TheVariants.{Refused}
use Rattle.text_ranges.proofs.Ranging.{tested-other, tested-beyond, tested_right}
use Rattle.text_ranges.proofs.tested.Goals as goal

pub returns-then-not-in_order : goal.returns-then-not-in_order
returns-then-not-in_order c = sym (tested-other _ _ _ (sym c.in_order.ensures ∙ c.if-not-in_order.true))

pub returns-then-out_of_range : goal.returns-then-out_of_range
unfolding cause
returns-then-out_of_range c =
    ap (λ x. Refused x.2) c.bounds_of-cause.ensures ∙ sym (tested-beyond _ _ _ (sym c.in_order.ensures ∙ c.if-not-in_order.false) (sym c.out_of_range.ensures ∙ c.if-out_of_range.true))

pub returns : goal.returns
returns c =
    sym (tested_right _ _ _ (sym c.in_order.ensures ∙ c.if-not-in_order.false) (sym c.out_of_range.ensures ∙ c.if-out_of_range.false))
