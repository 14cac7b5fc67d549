-- The number of every answer is 0 or one of the refusal sheet, 1 to 14 (demand 1), whatever is handed in (`every-numbered`).
-- Assumes nothing.
use Rattle.encoder_meaning.specs.declared.Encoded.{Encoded}
use Rattle.std.specs.Prelude.{Err, Ok, Result}
use Rattle.machine_slices.specs.declared.TestSlice.{TestSlice}
use Rattle.refusal_causes.specs.declared.Cause.{Cause}
use mathlib.Core.Path.{refl}
use mathlib.Core.Logic.{inl, inr}
use mathlib.Core.List.{List, [], ◌∷◌}
use Prim.Native.Nat.{ℕ}
use Rattle.refusal_causes.specs.Outcome.{fill}
use Rattle.refusal_causes.specs.Sheet.{OnSheet}
use Rattle.refusal_causes.proofs.Sheet.{on_sheet}
use Rattle.refusal_order.specs.Order.{first_of, judged}
use Rattle.refusal_checks.specs.Calls.{window_faults, set_faults, cubes_faults, stop_faults, list_faults}
use Rattle.stop_slice.specs.Entry.{stop_of}
use Rattle.expander_meaning.specs.Expanding.{expand_list}
use Rattle.theory_covering.specs.Single.{window_seed}
use Rattle.encoder_meaning.specs.Encoding.{encode_set}
use Rattle.encoder_cubes.specs.Cubes.{encode_cubes}
use Rattle.text_replies.specs.Replies.{Reply, RefusedBy, text, refused}
use Rattle.text_replies.specs.Calls.{answered, called}
use Rattle.text_order.specs.declared.Kind.{Kind}
use Rattle.text_order.specs.declared.Kind.TheVariants.{Sheet, SeedList}
use Rattle.text_calls.specs.Texts.{reply_to, call_of}
use Rattle.text_calls.proofs.Refusals.{reply_on_sheet}
use Rattle.face_checks.specs.Verdicts.{number_of}
use Rattle.face_numbers.specs.Stop.{stop_answer_of}
use Rattle.face_answers.specs.Answers.{answer_of, seed_answer_of, cubes_answer_of, text_answer_of}
use Rattle.face_numbers.specs.States.{state_answer, slice_answer, register_test, chains_test, state_test, step_call, slice_call}
use Rattle.face_numbered.specs.Numbered.{Numbered, Call, seeds_step, seeds_slice, seeds_check_window, seeds_check_set, seeds_check_cubes, seeds_check_stop, seeds_check_list, seeds_stop, seeds_expand, seeds_window, seeds_encode_set, seeds_encode_cubes, seeds_encode_text, seeds_expand_text, number_in}

check_numbered : (v : Result (Unit {0}) Cause) → Numbered (number_of v)
check_numbered (Ok tt) = inl refl
check_numbered (Err c) = inr (on_sheet c)

answer-numbered : (w : Result ℕ Cause) → Numbered (answer_of w).number
answer-numbered (Ok n) = inl refl
answer-numbered (Err c) = inr (on_sheet c)

stop-numbered : (f : Result TestSlice Cause) → Numbered (stop_answer_of f).number
stop-numbered (Ok stop) = inl refl
stop-numbered (Err c) = inr (on_sheet c)

seed-numbered : (s : Result ℕ Cause) → Numbered (seed_answer_of s).number
seed-numbered (Ok s) = inl refl
seed-numbered (Err c) = inr (on_sheet c)

cubes_numbered : (e : Result Encoded Cause) → Numbered (cubes_answer_of e).number
cubes_numbered (Ok e) = inl refl
cubes_numbered (Err c) = inr (on_sheet c)

answered-numbered : (n : ℕ) (w : Result ℕ Cause) → Numbered (text_answer_of (answered n w)).number
unfolding answered
answered-numbered n (Ok k) = inl refl
answered-numbered n (Err c) = inr (on_sheet c)

called-numbered : (r : Reply) (out : List ℕ) → RefusedBy OnSheet r → Numbered (text_answer_of (called r out).answer).number
unfolding called
called-numbered (text bs n) out h = answered-numbered n (fill bs out).answer
called-numbered (refused r) out h = inr h

text_numbered : (kind : Kind) (s out : List ℕ) → Numbered (text_answer_of (call_of kind s out).answer).number
unfolding call_of
text_numbered kind s out = called-numbered (reply_to kind s) out (reply_on_sheet kind s)

state_numbered : (v : Result (Unit {0}) Cause) (s : ℕ) → Numbered (state_answer v s).number
state_numbered (Ok tt) s = inl refl
state_numbered (Err c) s = inr (on_sheet c)

slice-numbered : (v : Result (Unit {0}) Cause) (s : ℕ) → Numbered (slice_answer v s).number
slice-numbered (Ok tt) s = inl refl
slice-numbered (Err c) s = inr (on_sheet c)

-- Each by what its call hands over.
pub every-numbered : (c : Call) → Numbered (number_in c)
unfolding step_call slice_call
every-numbered (seeds_step g s) = state_numbered (first_of (register_test g ∷ state_test g.cells s ∷ [])) _
every-numbered (seeds_slice g masks s) = slice-numbered (first_of (register_test g ∷ chains_test g masks ∷ state_test g.cells s ∷ [])) _
every-numbered (seeds_check_window g masks stop specified bits) = check_numbered (judged (window_faults g masks stop specified bits))
every-numbered (seeds_check_set g masks stop specified bits) = check_numbered (judged (set_faults g masks stop specified bits))
every-numbered (seeds_check_cubes g masks depth specified bits) = check_numbered (judged (cubes_faults g masks depth specified bits))
every-numbered (seeds_check_stop chains specified bits) = check_numbered (judged (stop_faults chains specified bits))
every-numbered (seeds_check_list g masks stop slices seeds) = check_numbered (judged (list_faults g masks stop slices seeds))
every-numbered (seeds_stop chains specified bits) = stop-numbered (stop_of chains specified bits)
every-numbered (seeds_expand g masks stop slices seeds out) = answer-numbered (expand_list g masks stop slices seeds out).answer
every-numbered (seeds_window g masks stop specified bits) = seed-numbered (window_seed g masks stop specified bits)
every-numbered (seeds_encode_set g masks stop specified bits out) = answer-numbered (encode_set g masks stop specified bits out).answer
every-numbered (seeds_encode_cubes g masks depth specified bits out) = cubes_numbered (encode_cubes g masks depth specified bits out).answer
every-numbered (seeds_encode_text sheet out) = text_numbered Sheet sheet out
every-numbered (seeds_expand_text list out) = text_numbered SeedList list out
