-- `text_replies::print` meets its contract. Assumes nothing.
use mathlib.Core.Path.{refl, ap, ◌∙◌}
use Rattle.text_replies.specs.Calls.{bytes_of, shown}
use Rattle.text_replies.proofs.print.Goals as goal

pub returns-in-Ok : goal.returns-in-Ok
unfolding shown
returns-in-Ok c = record { count = rw c.in-Ok.is refl; buffer = rw c.in-Ok.is refl }

pub returns-in-Err : goal.returns-in-Err
unfolding shown
returns-in-Err c = record {
  count = rw c.in-Err.is (c.bytes_of.ensures ∙ ap bytes_of c.write_refusal.ensures.answer);
  buffer = rw c.in-Err.is c.write_refusal.ensures.buffer;
}
