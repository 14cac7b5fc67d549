-- `machine_chains::bad_mask` meets its contract. Assumes nothing.
use borrow.Author.Tests.{eq-eqb, ne_eqb}
use Rattle.machine_chains.specs.Chains.{bad_mask}
use Rattle.machine_chains.proofs.bad_mask.Goals as goal

pub returns-then-mask-eq0 : goal.returns-then-mask-eq0
unfolding bad_mask
returns-then-mask-eq0 c = rw (eq-eqb c.args.mask 0 c.if-mask-eq0.true)

pub returns : goal.returns
unfolding bad_mask
returns c = rw (ne_eqb c.args.mask 0 c.if-mask-eq0.false) c.beyond.ensures
