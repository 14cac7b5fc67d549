-- `face_window::window_seed` meets its contract. Assumes nothing.
use mathlib.Core.Path.{ap, ◌∙◌}
use Rattle.theory_covering.proofs.Single.{window_means}
use Rattle.face_answers.specs.Answers.{seed_answer_of}
use Rattle.face_values.specs.Values.{settings_of, test_slice_of}
use Rattle.face_window.proofs.window_seed.Goals as goal

pub returns : goal.returns
returns c =
    let a = c.args in
    let g = c.from-given in
    let t = c.test_slice_of-stop in
    record { answer = c.seed_answer_of.ensures ∙ ap seed_answer_of (rw (g.ensures, t.ensures) at c.window_seed-seed.ensures.answer); meaning = window_means (settings_of a.settings) a.masks.now (test_slice_of a.stop_specified a.stop_bits) a.specified.now a.bits.now }
