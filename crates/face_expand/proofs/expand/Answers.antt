-- `face_expand::expand` meets its contract. Assumes nothing.
use mathlib.Core.Path.{ap, ◌∙◌}
use Rattle.face_answers.specs.Answers.{answer_of}
use Rattle.face_expand.proofs.expand.Goals as goal

pub returns : goal.returns
returns c =
    let e = c.expand_list-written in
    let g = c.from-given in
    let t = c.test_slice_of-stop in
    record { answer = c.answer_of.ensures ∙ ap answer_of (rw (g.ensures, t.ensures) at e.ensures.answer); buffer = rw (g.ensures, t.ensures) at e.ensures.buffer }
