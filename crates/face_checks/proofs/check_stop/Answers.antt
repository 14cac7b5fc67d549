-- `face_checks::check_stop` meets its contract. Assumes nothing.
use mathlib.Core.Path.{ap, ◌∙◌}
use Rattle.face_checks.specs.Verdicts.{number_of}
use Rattle.face_checks.proofs.check_stop.Goals as goal

pub returns : goal.returns
returns c = c.number.ensures ∙ ap number_of c.check_stop.ensures
