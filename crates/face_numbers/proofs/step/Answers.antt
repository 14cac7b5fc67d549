-- `face_numbers::step` meets its contract. Assumes nothing.
use mathlib.Core.Path.{sym, ◌∙◌}
use Rattle.face_numbers.proofs.Found.{made_step, refused_step}
use Rattle.face_numbers.proofs.step.Goals as goal

pub returns-in-Ok : goal.returns-in-Ok
returns-in-Ok c = c.step_found.ensures ∙ made_step _ _ c.in-Ok.register (sym c.new.ensures ∙ c.in-Ok.is)

pub returns-in-Err : goal.returns-in-Err
returns-in-Err c = c.no_state.ensures ∙ refused_step _ _ c.in-Err.cause (sym c.new.ensures ∙ c.in-Err.is)
