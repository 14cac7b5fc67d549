-- The calls that take a state, as the code goes on once the register is lawful. No public contract rests on these, and a reader of those can pass them over.
--     step_found r s               the state after one step of the register r, or cause 10
--     slice_found g masks s        the slice, or cause 2, then 10
use Rattle.std.specs.Prelude.{List, [], ◌∷◌, ℕ}
use Rattle.machine_register.specs.Register.{step_of}
use Rattle.machine_register.specs.declared.Register.{Register}
use Rattle.machine_settings.specs.Machine.{machine}
use Rattle.machine_settings.specs.declared.Settings.{Settings}
use Rattle.refusal_order.specs.Order.{first_of}
use Rattle.face_numbers.specs.declared.StateAnswer.{StateAnswer}
use Rattle.face_numbers.specs.declared.SliceAnswer.{SliceAnswer}
use Rattle.face_numbers.specs.States.{state_answer, slice_answer, chains_test, state_test}

unfoldable pub step_found : Register → ℕ → StateAnswer
step_found r s = state_answer (first_of (state_test r.cells s ∷ [])) (step_of r s)

unfoldable pub slice_found : Settings → List ℕ → ℕ → SliceAnswer
slice_found g masks s = slice_answer (first_of (chains_test g masks ∷ state_test g.cells s ∷ [])) ((machine g masks).slice s)
