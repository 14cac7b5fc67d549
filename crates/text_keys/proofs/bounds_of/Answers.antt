-- `text_keys::bounds_of` meets its contract. Assumes nothing.
use Rattle.text_keys.proofs.Table.{placed}
use Rattle.text_keys.proofs.bounds_of.Goals as goal

pub bounds_at-requires : goal.bounds_at-requires
bounds_at-requires c = rw c.rank.ensures (placed c.args.key).within

pub returns : goal.returns
returns c = rw (c.bounds_at.ensures, c.rank.ensures)
