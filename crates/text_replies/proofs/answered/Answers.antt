-- `text_replies::answered` meets its contract. Assumes nothing.
use Rattle.text_replies.specs.Calls.{answered}
use Rattle.text_replies.proofs.answered.Goals as goal

pub returns-in-Ok : goal.returns-in-Ok
unfolding answered
returns-in-Ok c = rw c.in-Ok.is

pub returns-in-Err : goal.returns-in-Err
unfolding answered
returns-in-Err c = rw (c.in-Err.is, c.from.ensures)
