-- `text_keys::spelling_of` meets its contract. Assumes nothing.
use Rattle.text_keys.proofs.Table.{placed}
use Rattle.text_keys.proofs.spelling_of.Goals as goal

pub spelling_at-requires : goal.spelling_at-requires
spelling_at-requires c = rw c.rank.ensures (placed c.args.key).within

pub returns : goal.returns
returns c = rw (c.spelling_at.ensures, c.rank.ensures)
