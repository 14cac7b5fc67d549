-- `face_checks::check_set` meets its contract. Assumes nothing.
use mathlib.Core.Path.{ap, ◌∙◌}
use Rattle.face_checks.specs.Verdicts.{number_of}
use Rattle.face_checks.proofs.check_set.Goals as goal

pub returns : goal.returns
returns c = c.number.ensures ∙ ap number_of (rw (c.from-given.ensures, c.test_slice_of-stop.ensures) at c.check_set.ensures)
