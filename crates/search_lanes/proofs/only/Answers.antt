-- `search_lanes::only` meets its contract. Assumes nothing.
use Rattle.search_lanes.proofs.Lanes.{only-fits}
use borrow.Author.Rules.{rules}
use Rattle.search_lanes.proofs.only.Goals as goal

pub overflow_mul-result : goal.overflow_mul-result
overflow_mul-result c = record { fits = only-fits c.args.word c.args.bit (search rules) (search rules) }
