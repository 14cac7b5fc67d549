-- `face_answers::answer_of` meets its contract. Assumes nothing.
use mathlib.Core.Path.{sym, ap, ◌∙◌}
use Rattle.refusal_causes.specs.declared.Refusal.{Refusal}
use Rattle.face_answers.specs.Answers.{answer_of}
use Rattle.face_answers.specs.declared.Answer.{Answer}
use Rattle.face_answers.proofs.answer_of.Goals as goal

abbrev refusedAnswer : Refusal → Answer
refusedAnswer r = record { number = r.number; value = r.value }

pub returns-in-Ok : goal.returns-in-Ok
returns-in-Ok c = sym (ap answer_of c.in-Ok.is)

pub returns-in-Err : goal.returns-in-Err
returns-in-Err c = ap refusedAnswer c.from-refusal.ensures ∙ sym (ap answer_of c.in-Err.is)
