-- `text_lines::sliced` meets its contract. Assumes nothing.
use Rattle.text_lines.specs.Form.{sliced}
use Rattle.text_lines.proofs.sliced.Goals as goal

pub returns-in-Some : goal.returns-in-Some
unfolding sliced
returns-in-Some c = rw c.in-Some.is

pub returns-in-None : goal.returns-in-None
unfolding sliced
returns-in-None c = rw c.in-None.is
