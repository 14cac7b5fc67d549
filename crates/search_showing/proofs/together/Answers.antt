-- `search_showing::together` meets its contract. Assumes nothing.
use Rattle.search_showing.proofs.together.Goals as goal

pub returns-in-Always-other : goal.returns-in-Always-other
returns-in-Always-other c = rw (c.in-Unless.is, c.in-Always-other.is)
