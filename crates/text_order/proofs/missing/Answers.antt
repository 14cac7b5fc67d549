-- `text_order::missing` meets its contract. Assumes nothing.
use mathlib.Core.Path.{sym, ◌∙◌}
use Rattle.text_keys.proofs.Table.{same_derived}
use Rattle.text_order.proofs.Standing.{missing_more, missing-none}
use Rattle.text_order.proofs.missing.Goals as goal

pub returns-then-eq : goal.returns-then-eq
returns-then-eq c = sym (missing_more _ (sym (c.eq.ensures ∙ same_derived _ _) ∙ c.if-eq.true))

pub returns-else-eq : goal.returns-else-eq
returns-else-eq c = c.if-eq.false ∙ sym (missing-none _ (sym (c.eq.ensures ∙ same_derived _ _) ∙ c.if-eq.false))
