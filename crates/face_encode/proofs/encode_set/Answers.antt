-- `face_encode::encode_set` meets its contract. Assumes nothing.
use mathlib.Core.Path.{ap, ◌∙◌}
use Rattle.encoder_meaning.proofs.Calls.{set_means}
use Rattle.face_answers.specs.Answers.{answer_of}
use Rattle.face_values.specs.Values.{settings_of, test_slice_of}
use Rattle.face_encode.proofs.encode_set.Goals as goal

pub returns : goal.returns
returns c =
    let a = c.args in
    let g = c.from-given in
    let t = c.test_slice_of-stop in
    let e = c.encode_set-written in record { answer = c.answer_of.ensures ∙ ap answer_of (rw (g.ensures, t.ensures) at e.ensures.answer); buffer = rw (g.ensures, t.ensures) at e.ensures.buffer; meaning = set_means (settings_of a.settings) a.masks.now (test_slice_of a.stop_specified a.stop_bits) a.specified.now a.bits.now a.out.now }
