-- `face_numbers::stop_answer_of` meets its contract. Assumes nothing.
use mathlib.Core.Path.{sym, ap, ◌∙◌}
use Rattle.refusal_causes.specs.declared.Refusal.{Refusal}
use Rattle.face_numbers.specs.Stop.{stop_answer_of}
use Rattle.face_numbers.specs.declared.StopAnswer.{StopAnswer}
use Rattle.face_numbers.proofs.stop_answer_of.Goals as goal

abbrev refusedStop : Refusal → StopAnswer
refusedStop r = record { number = r.number; value = r.value; specified = 0; bits = 0 }

pub returns-in-Ok : goal.returns-in-Ok
returns-in-Ok c = sym (ap stop_answer_of c.in-Ok.is)

pub returns-in-Err : goal.returns-in-Err
returns-in-Err c = ap refusedStop c.from-refusal.ensures ∙ sym (ap stop_answer_of c.in-Err.is)
