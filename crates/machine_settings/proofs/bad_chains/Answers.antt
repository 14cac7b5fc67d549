-- `machine_settings::bad_chains` meets its contract. Assumes nothing.
use mathlib.Core.Path.{sym, ◌∙◌}
use Rattle.machine_settings.proofs.Machine.{chains_bad, chains_good}
use Rattle.machine_settings.proofs.bad_chains.Goals as goal

pub returns-then-bad_chains : goal.returns-then-bad_chains
returns-then-bad_chains c = sym (chains_bad _ _ (sym c.bad_chains.ensures ∙ c.if-bad_chains.true))

pub returns : goal.returns
returns c = c.beyond.ensures ∙ sym (chains_good _ _ (sym c.bad_chains.ensures ∙ c.if-bad_chains.false))
