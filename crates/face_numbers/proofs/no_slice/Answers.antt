-- `face_numbers::no_slice` meets its contract. Assumes nothing.
use Rattle.face_numbers.proofs.no_slice.Goals as goal

pub returns : goal.returns
returns c = rw c.from-refusal.ensures
