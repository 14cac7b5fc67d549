-- `text_place::run_of` meets its contract. Assumes nothing.
use mathlib.Core.Path.{sym, ◌∙◌}
use Rattle.text_keys.proofs.Table.{same_derived}
use Rattle.text_place.proofs.Runs.{run-here, run_none}
use Rattle.text_place.proofs.run_of.Goals as goal

pub returns-then-eq : goal.returns-then-eq
returns-then-eq c = sym (run-here _ _ (sym (c.eq.ensures ∙ same_derived _ _) ∙ c.if-eq.true))

pub returns-else-eq : goal.returns-else-eq
returns-else-eq c = sym (run_none _ _ (sym (c.eq.ensures ∙ same_derived _ _) ∙ c.if-eq.false))
