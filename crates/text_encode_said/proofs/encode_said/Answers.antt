-- `text_encode_said::encode_said` meets its contract. Assumes nothing.
use Rattle.text_encode_said.specs.Encoded.{encoded}
use Rattle.text_encode_said.proofs.encode_said.Goals as goal

pub returns : goal.returns
unfolding encoded
returns c = record { answer = rw (← c.encode_cubes-encoded.ensures.answer, ← c.encode_cubes-encoded.ensures.buffer) c.reply_list.ensures.answer; buffer = rw (← c.encode_cubes-encoded.ensures.answer, ← c.encode_cubes-encoded.ensures.buffer) c.reply_list.ensures.buffer }
