-- `text_expand_said::expand_said` meets its contract. Assumes nothing.
use Rattle.text_expand_said.specs.Expanded.{expanded}
use Rattle.text_expand_said.proofs.expand_said.Goals as goal

pub returns : goal.returns
unfolding expanded
returns c = record { answer = rw (← c.expand_list-written.ensures.answer, ← c.expand_list-written.ensures.buffer) c.reply_slices.ensures.answer; buffer = rw (← c.expand_list-written.ensures.answer, ← c.expand_list-written.ensures.buffer) c.reply_slices.ensures.buffer }
