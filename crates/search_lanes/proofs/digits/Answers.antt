-- `search_lanes::digits` meets its contract. Assumes nothing.
use Rattle.search_lanes.proofs.Lanes.{table-digits}
use borrow.Author.Rules.{rules}
use Rattle.search_lanes.proofs.digits.Goals as goal

pub returns : goal.returns
returns c = table-digits c.args.place (search rules)
