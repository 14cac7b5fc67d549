-- `text_program::reply` meets its contract. The buffer has space for whatever is printed. Assumes nothing.
use Rattle.text_calls.proofs.Space.{call_prints}
use Rattle.text_meaning.proofs.Calls.{reply_means}
use Rattle.text_program.proofs.reply.Goals as goal

pub returns : goal.returns
returns c =
    let q = call_prints _ _ _ c.requires _ _ _ _ c.print.ensures.count c.print.ensures.buffer c.call-answer.ensures.answer c.call-answer.ensures.buffer in record { count = q.0; bytes = q.1.0; within = q.1.1; meaning = reply_means c.args.kind c.args.text.now }
