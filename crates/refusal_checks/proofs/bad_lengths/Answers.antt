-- `refusal_checks::bad_lengths` meets its contract. Assumes nothing.
use mathlib.Core.Path.{sym, ◌∙◌}
use Rattle.refusal_checks.proofs.Formed.{limit_bad, limit_good}
use Rattle.refusal_checks.proofs.bad_lengths.Goals as goal

pub returns-then-bad_limit : goal.returns-then-bad_limit
returns-then-bad_limit c = sym (limit_bad _ _ (sym c.bad_limit.ensures ∙ c.if-bad_limit.true))

pub returns : goal.returns
returns c = sym (limit_good _ _ (sym c.bad_limit.ensures ∙ c.if-bad_limit.false))
