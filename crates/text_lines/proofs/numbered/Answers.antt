-- `text_lines::numbered` meets its contract. Assumes nothing.
use Rattle.text_lines.specs.Form.{numbered}
use Rattle.text_lines.proofs.numbered.Goals as goal

pub returns-in-Some : goal.returns-in-Some
unfolding numbered
returns-in-Some c = rw c.in-Some.is

pub returns-in-None : goal.returns-in-None
unfolding numbered
returns-in-None c = rw c.in-None.is
