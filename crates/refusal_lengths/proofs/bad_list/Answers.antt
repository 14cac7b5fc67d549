-- `refusal_lengths::bad_list` meets its contract. Assumes nothing.
use mathlib.Core.Path.{sym, ◌∙◌}
use Rattle.refusal_lengths.proofs.Lengths.{list_slices, list_seeds}
use Rattle.refusal_lengths.proofs.bad_list.Goals as goal

pub returns-then-bad_set : goal.returns-then-bad_set
returns-then-bad_set c = sym (list_slices _ _ (sym c.bad_set.ensures ∙ c.if-bad_set.true))

pub returns : goal.returns
returns c = sym (list_seeds _ _ (sym c.bad_set.ensures ∙ c.if-bad_set.false))
