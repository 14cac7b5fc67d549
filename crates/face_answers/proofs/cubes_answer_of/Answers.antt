-- `face_answers::cubes_answer_of` meets its contract. Assumes nothing.
use mathlib.Core.Path.{sym, ap, ◌∙◌}
use Rattle.refusal_causes.specs.declared.Refusal.{Refusal}
use Rattle.face_answers.specs.Answers.{cubes_answer_of}
use Rattle.face_answers.specs.declared.CubesAnswer.{CubesAnswer}
use Rattle.face_answers.proofs.cubes_answer_of.Goals as goal

pub returns-in-Ok : goal.returns-in-Ok
returns-in-Ok c = sym (ap cubes_answer_of c.in-Ok.is)

pub returns-in-Err : goal.returns-in-Err
returns-in-Err c =
    let refused : Refusal → CubesAnswer = λ r. record { number = r.number; value = r.value; specified = 0; bits = 0 } in
    ap refused c.from-refusal.ensures ∙ sym (ap cubes_answer_of c.in-Err.is)
