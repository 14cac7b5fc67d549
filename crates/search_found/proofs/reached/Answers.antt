-- `search_found::reached` meets its contract. Assumes nothing.
use Rattle.search_found.proofs.reached.Goals as goal

pub returns-in-Some : goal.returns-in-Some
returns-in-Some c = rw c.in-Some.is
