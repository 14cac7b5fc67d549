-- `search_table::pull` meets its contract. Assumes nothing.
use Rattle.search_table.proofs.Pulling.{pull-odd, pull_even}
use Rattle.search_table.proofs.pull.Goals as goal

pub returns-then-mask-eq1 : goal.returns-then-mask-eq1
returns-then-mask-eq1 c = pull-odd c.args.taps c.args.mask c.if-mask-eq1.true

pub returns-else-mask-eq1 : goal.returns-else-mask-eq1
returns-else-mask-eq1 c = pull_even c.args.taps c.args.mask c.if-mask-eq1.false
