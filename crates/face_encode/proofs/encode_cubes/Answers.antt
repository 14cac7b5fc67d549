-- `face_encode::encode_cubes` meets its contract. Assumes nothing.
use mathlib.Core.Path.{ap, ◌∙◌}
use Rattle.encoder_cubes.proofs.Cubes.{cubes_means}
use Rattle.face_answers.specs.Answers.{cubes_answer_of}
use Rattle.face_values.specs.Values.{settings_of}
use Rattle.face_encode.proofs.encode_cubes.Goals as goal

pub returns : goal.returns
returns c =
    let a = c.args in
    let g = c.from-given in
    let e = c.encode_cubes-encoded in record { answer = c.cubes_answer_of.ensures ∙ ap cubes_answer_of (rw g.ensures at e.ensures.answer); buffer = rw g.ensures at e.ensures.buffer; meaning = cubes_means (settings_of a.settings) a.masks.now a.specified.now a.bits.now a.out.now a.depth }
