-- The calls that take a state: one step of the register, and its slice (document 01, "Register and chains"; causes 1, 2 and 10 of its refusal sheet). They have no window: the limit of the settings is not judged. A step forms no slice: the inverted chains are not judged there.
--     state_answer v s, slice_answer v s     number 0 with the state or the slice s, or the number and value of the refusal, and 0
--     no_state c, no_slice c                 those that are refused
--     register_test, chains_test, state_test     causes 1, 2 and 10; cause 2 also looks at the inverted chains; the state is the one seed that is handed in, so its place is 0
--     step_call g s                         the state after one step: cause 1, then 10
--     slice_call g masks s                  the slice: causes 1 and 2, then 10
use Rattle.std.specs.Prelude.{List, [], ◌∷◌, ℕ, Err, Ok, Result}
use Rattle.words_gf2.specs.Words.{beyond}
use Rattle.refusal_causes.specs.declared.Cause.{Cause}
use Rattle.refusal_causes.specs.declared.Cause.TheVariants as cause
use Rattle.refusal_causes.specs.Sheet.{refusal_of}
use Rattle.machine_register.specs.Register.{bad_register, step}
use Rattle.machine_settings.specs.Machine.{machine, bad_chains_of}
use Rattle.machine_settings.specs.declared.Settings.{Settings}
use Rattle.refusal_order.specs.Order.{Test, first_of}
use Rattle.face_numbers.specs.declared.StateAnswer.{StateAnswer}
use Rattle.face_numbers.specs.declared.SliceAnswer.{SliceAnswer}

abbrev pub no_state : Cause → StateAnswer
no_state c = record { number = (refusal_of c).number; value = (refusal_of c).value; state = 0 }

abbrev pub no_slice : Cause → SliceAnswer
no_slice c = record { number = (refusal_of c).number; value = (refusal_of c).value; slice = 0 }

abbrev pub state_answer : Result (Unit {0}) Cause → ℕ → StateAnswer
state_answer (Ok tt) s = record { number = 0; value = 0; state = s }
state_answer (Err c) s = no_state c

abbrev pub slice_answer : Result (Unit {0}) Cause → ℕ → SliceAnswer
slice_answer (Ok tt) s = record { number = 0; value = 0; slice = s }
slice_answer (Err c) s = no_slice c

abbrev pub register_test : Settings → Test
register_test g = record { holds = bad_register g.cells g.taps; refused = cause.Register }

abbrev pub chains_test : Settings → List ℕ → Test
chains_test g masks = record { holds = bad_chains_of g masks; refused = cause.Chains }

abbrev pub state_test : ℕ → ℕ → Test
state_test cells s = record { holds = beyond cells s; refused = cause.SeedBeyond 0 }

unfoldable pub step_call : Settings → ℕ → StateAnswer
step_call g s = state_answer (first_of (register_test g ∷ state_test g.cells s ∷ [])) (step g.cells g.taps s)

unfoldable pub slice_call : Settings → List ℕ → ℕ → SliceAnswer
slice_call g masks s = slice_answer (first_of (register_test g ∷ chains_test g masks ∷ state_test g.cells s ∷ [])) ((machine g masks).slice s)
