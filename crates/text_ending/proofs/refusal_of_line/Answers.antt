-- `text_ending::refusal_of_line` meets its contract. Assumes nothing.
use Rattle.text_ending.specs.Ending.{refusal_of_line}
use Rattle.text_ending.proofs.refusal_of_line.Goals as goal

pub returns-in-Said : goal.returns-in-Said
unfolding refusal_of_line
returns-in-Said c = rw c.in-Said.is c.refused_at.ensures

pub returns-in-Refused : goal.returns-in-Refused
unfolding refusal_of_line
returns-in-Refused c = rw c.in-Refused.is c.refused_at-in-Refused.ensures
