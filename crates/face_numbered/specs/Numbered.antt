-- The number of every answer (document 01's refusal sheet; demand 1).
--     Numbered number     0, or a number of the refusal sheet
--     Call                a call of one of the library's entries, with all that is handed in
--     number_in c          the number that the entry answers, in the words of its contract
use Rattle.std.specs.Prelude.{◌≡◌, ◌⊎◌, List, ℕ}
use Rattle.refusal_causes.specs.Sheet.{OnSheet}
use Rattle.refusal_order.specs.Order.{judged}
use Rattle.refusal_checks.specs.Calls.{window_faults, set_faults, cubes_faults, stop_faults, list_faults}
use Rattle.machine_settings.specs.declared.Settings.{Settings}
use Rattle.machine_slices.specs.declared.TestSlice.{TestSlice}
use Rattle.stop_slice.specs.Entry.{stop_of}
use Rattle.expander_meaning.specs.Expanding.{expand_list}
use Rattle.theory_covering.specs.Single.{window_seed}
use Rattle.encoder_meaning.specs.Encoding.{encode_set}
use Rattle.encoder_cubes.specs.Cubes.{encode_cubes}
use Rattle.text_calls.specs.Texts.{encode_call, expand_call}
use Rattle.face_numbers.specs.States.{step_call, slice_call}
use Rattle.face_numbers.specs.Stop.{stop_answer_of}
use Rattle.face_checks.specs.Verdicts.{number_of}
use Rattle.face_answers.specs.Answers.{answer_of, seed_answer_of, cubes_answer_of, text_answer_of}

abbrev pub Numbered : ℕ → Type 0
Numbered number = (number ≡ 0) ⊎ OnSheet number

pub data Call : Type 0 where
  seeds_step : Settings → ℕ → Call
  seeds_slice : Settings → List ℕ → ℕ → Call
  seeds_check_window : Settings → List ℕ → TestSlice → List ℕ → List ℕ → Call
  seeds_check_set : Settings → List ℕ → TestSlice → List ℕ → List ℕ → Call
  seeds_check_cubes : Settings → List ℕ → ℕ → List ℕ → List ℕ → Call
  seeds_check_stop : ℕ → List ℕ → List ℕ → Call
  seeds_check_list : Settings → List ℕ → TestSlice → ℕ → ℕ → Call
  seeds_stop : ℕ → List ℕ → List ℕ → Call
  seeds_expand : Settings → List ℕ → TestSlice → ℕ → List ℕ → List ℕ → Call
  seeds_window : Settings → List ℕ → TestSlice → List ℕ → List ℕ → Call
  seeds_encode_set : Settings → List ℕ → TestSlice → List ℕ → List ℕ → List ℕ → Call
  seeds_encode_cubes : Settings → List ℕ → ℕ → List ℕ → List ℕ → List ℕ → Call
  seeds_encode_text : List ℕ → List ℕ → Call
  seeds_expand_text : List ℕ → List ℕ → Call

abbrev pub number_in : Call → ℕ
number_in (seeds_step g s) = (step_call g s).number
number_in (seeds_slice g masks s) = (slice_call g masks s).number
number_in (seeds_check_window g masks stop specified bits) = number_of (judged (window_faults g masks stop specified bits))
number_in (seeds_check_set g masks stop specified bits) = number_of (judged (set_faults g masks stop specified bits))
number_in (seeds_check_cubes g masks depth specified bits) = number_of (judged (cubes_faults g masks depth specified bits))
number_in (seeds_check_stop chains specified bits) = number_of (judged (stop_faults chains specified bits))
number_in (seeds_check_list g masks stop slices seeds) = number_of (judged (list_faults g masks stop slices seeds))
number_in (seeds_stop chains specified bits) = (stop_answer_of (stop_of chains specified bits)).number
number_in (seeds_expand g masks stop slices seeds out) = (answer_of (expand_list g masks stop slices seeds out).answer).number
number_in (seeds_window g masks stop specified bits) = (seed_answer_of (window_seed g masks stop specified bits)).number
number_in (seeds_encode_set g masks stop specified bits out) = (answer_of (encode_set g masks stop specified bits out).answer).number
number_in (seeds_encode_cubes g masks depth specified bits out) = (cubes_answer_of (encode_cubes g masks depth specified bits out).answer).number
number_in (seeds_encode_text sheet out) = (text_answer_of (encode_call sheet out).answer).number
number_in (seeds_expand_text list out) = (text_answer_of (expand_call list out).answer).number
