-- `face_texts::answer_text` meets its contract. Assumes nothing.
use mathlib.Core.Path.{ap, ◌∙◌}
use Rattle.face_answers.specs.Answers.{text_answer_of}
use Rattle.text_meaning.proofs.Calls.{call_means}
use Rattle.face_texts.proofs.answer_text.Goals as goal

pub returns : goal.returns
returns c = record { answer = c.text_answer_of.ensures ∙ ap text_answer_of c.call.ensures.answer; buffer = c.call.ensures.buffer; meaning = call_means _ _ _ }
