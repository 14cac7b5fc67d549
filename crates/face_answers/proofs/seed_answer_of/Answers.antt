-- `face_answers::seed_answer_of` meets its contract. Assumes nothing.
use mathlib.Core.Path.{sym, ap, ◌∙◌}
use Rattle.refusal_causes.specs.declared.Refusal.{Refusal}
use Rattle.face_answers.specs.Answers.{seed_answer_of}
use Rattle.face_answers.specs.declared.SeedAnswer.{SeedAnswer}
use Rattle.face_answers.proofs.seed_answer_of.Goals as goal

pub returns-in-Ok : goal.returns-in-Ok
returns-in-Ok c = sym (ap seed_answer_of c.in-Ok.is)

pub returns-in-Err : goal.returns-in-Err
returns-in-Err c =
    let refused : Refusal → SeedAnswer = λ r. record { number = r.number; value = r.value; seed = 0 } in
    ap refused c.from-refusal.ensures ∙ sym (ap seed_answer_of c.in-Err.is)
