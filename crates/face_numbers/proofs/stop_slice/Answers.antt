-- `face_numbers::stop_slice` meets its contract. Assumes nothing.
use mathlib.Core.Path.{ap, ◌∙◌}
use Rattle.stop_slice.proofs.Calls.{formed_means}
use Rattle.face_numbers.specs.Stop.{stop_answer_of}
use Rattle.face_numbers.proofs.stop_slice.Goals as goal

pub returns : goal.returns
returns c = record { answer = c.stop_answer_of.ensures ∙ ap stop_answer_of c.stop_slice.ensures.answer; meaning = formed_means _ _ _ }
