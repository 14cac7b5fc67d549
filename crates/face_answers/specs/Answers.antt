-- The answers of the entries for C and Rust, by the one definition of numbers and values (document 01's refusal sheet).
--     answer_of written              number 0 with the entries written, or the number and value of the refusal
--     seed_answer_of seed             number 0 with the seed, or the number and value of the refusal, and seed 0
--     cubes_answer_of encoded         number 0 with the seeds written and the stop slice, or the number and value of the refusal, and no position
--     text_answer_of answer           number 0 with the bytes written and their seeds or slices, or the number and value of the refusal, and the seeds or slices beside it
use Rattle.text_replies.specs.Calls as text_replies
use Rattle.encoder_meaning.specs.declared.Encoded.{Encoded}
use Rattle.std.specs.Prelude.{Err, Ok, Result, ℕ}
use Rattle.refusal_causes.specs.declared.Cause.{Cause}
use Rattle.refusal_causes.specs.Sheet.{refusal_of}
use Rattle.face_answers.specs.declared.Answer.{Answer}
use Rattle.face_answers.specs.declared.SeedAnswer.{SeedAnswer}
use Rattle.face_answers.specs.declared.CubesAnswer.{CubesAnswer}
use Rattle.face_answers.specs.declared.TextAnswer.{TextAnswer}

abbrev pub answer_of : Result ℕ Cause → Answer
answer_of (Ok n) = record { number = 0; value = n }
answer_of (Err c) = record { number = (refusal_of c).number; value = (refusal_of c).value }

abbrev pub seed_answer_of : Result ℕ Cause → SeedAnswer
seed_answer_of (Ok s) = record { number = 0; value = 0; seed = s }
seed_answer_of (Err c) = record { number = (refusal_of c).number; value = (refusal_of c).value; seed = 0 }

abbrev pub cubes_answer_of : Result Encoded Cause → CubesAnswer
cubes_answer_of (Ok e) = record { number = 0; value = e.seeds; specified = e.stop.specified; bits = e.stop.bits }
cubes_answer_of (Err c) = record { number = (refusal_of c).number; value = (refusal_of c).value; specified = 0; bits = 0 }

abbrev pub text_answer_of : text_replies.Answer → TextAnswer
text_answer_of (Ok t) = record { number = 0; value = t.bytes; entries = t.entries }
text_answer_of (Err t) = record { number = t.refusal.number; value = t.refusal.value; entries = t.entries }
