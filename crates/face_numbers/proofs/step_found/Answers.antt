-- `face_numbers::step_found` meets its contract. Assumes nothing.
use mathlib.Core.Path.{sym, ◌∙◌}
use Rattle.face_numbers.proofs.Found.{beyond_state, within_state}
use Rattle.face_numbers.proofs.step_found.Goals as goal

pub returns-then-beyond : goal.returns-then-beyond
returns-then-beyond c = c.no_state.ensures ∙ beyond_state _ _ (sym c.beyond.ensures ∙ c.if-beyond.true)

pub returns : goal.returns
returns c = rw c.step.ensures (within_state _ _ (sym c.beyond.ensures ∙ c.if-beyond.false))
