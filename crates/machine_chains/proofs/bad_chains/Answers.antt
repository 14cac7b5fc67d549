-- `machine_chains::bad_chains` meets its contract. Assumes nothing.
use mathlib.Core.Path.{sym, ◌∙◌}
use Rattle.machine_chains.proofs.Causes.{chains_count, chains_masks}
use Rattle.machine_chains.proofs.bad_chains.Goals as goal

pub returns-then-bad_count : goal.returns-then-bad_count
returns-then-bad_count c = sym (chains_count _ _ (sym c.bad_count.ensures ∙ c.if-bad_count.true))

pub returns : goal.returns
returns c = c.some_bad_mask.ensures ∙ sym (chains_masks _ _ (sym c.bad_count.ensures ∙ c.if-bad_count.false))
