-- `text_ending::refused_at` meets its contract. Assumes nothing.
use Rattle.text_ending.proofs.refused_at.Goals as goal

pub returns : goal.returns
returns c = rw c.number_of.ensures
