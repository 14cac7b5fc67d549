-- `face_numbers::no_state` meets its contract. Assumes nothing.
use Rattle.face_numbers.proofs.no_state.Goals as goal

pub returns : goal.returns
returns c = rw c.from-refusal.ensures
