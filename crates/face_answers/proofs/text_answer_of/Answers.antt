-- `face_answers::text_answer_of` meets its contract. Assumes nothing.
use Rattle.face_answers.proofs.text_answer_of.Goals as goal

pub returns-in-Ok : goal.returns-in-Ok
returns-in-Ok c = rw c.in-Ok.is

pub returns-in-Err : goal.returns-in-Err
returns-in-Err c = rw c.in-Err.is
