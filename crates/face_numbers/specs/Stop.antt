-- The answer of the call for a stop slice.
--     stop_answer_of formed           number 0 with the stop slice, or the number and value of the refusal, and no position
use Rattle.std.specs.Prelude.{Err, Ok, Result}
use Rattle.machine_slices.specs.declared.TestSlice.{TestSlice}
use Rattle.refusal_causes.specs.declared.Cause.{Cause}
use Rattle.refusal_causes.specs.Sheet.{refusal_of}
use Rattle.face_numbers.specs.declared.StopAnswer.{StopAnswer}

abbrev pub stop_answer_of : Result TestSlice Cause → StopAnswer
stop_answer_of (Ok stop) = record { number = 0; value = 0; specified = stop.specified; bits = stop.bits }
stop_answer_of (Err c) = record { number = (refusal_of c).number; value = (refusal_of c).value; specified = 0; bits = 0 }
