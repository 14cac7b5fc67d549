-- `stop_counting::is_in` meets its contract. Assumes nothing.
use mathlib.Core.Path.{sym, ◌∙◌}
use Rattle.stop_counting.proofs.Counting.{in_unspecified, in_shows}
use Rattle.stop_counting.proofs.is_in.Goals as goal

pub returns-then-test-stop : goal.returns-then-test-stop
returns-then-test-stop c = sym (in_unspecified _ _ c.if-test-stop.true)

pub returns : goal.returns
returns c = c.shows.ensures ∙ sym (in_shows _ _ c.if-test-stop.false)
