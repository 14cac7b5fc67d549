-- `stop_choice::better` meets its contract. Assumes nothing.
use mathlib.Core.Path.{sym, ap, ◌∙◌}
use Rattle.stop_choice.specs.Choosing.{track}
use Rattle.stop_choice.proofs.Tracking.{track_more, track_less}
use Rattle.stop_choice.proofs.better.Goals as goal

pub returns-in-None : goal.returns-in-None
unfolding track
returns-in-None c = let a = c.args in sym (ap (track a.choice a.count) c.in-None.is)

pub returns-then-most-count : goal.returns-then-most-count
returns-then-most-count c =
    let a = c.args in
    let b = c.in-Some in
    sym (ap (track a.choice a.count) b.is ∙ track_more a.choice a.count b.other.choice b.other.count c.if-most-count.true)

pub returns-else-most-count : goal.returns-else-most-count
returns-else-most-count c =
    let a = c.args in
    let b = c.in-Some in
    sym (ap (track a.choice a.count) b.is ∙ track_less a.choice a.count b.other.choice b.other.count c.if-most-count.false)
