-- `text_program::run`: each buffer is lent whole, and has the length that is asked for; what is written is what is printed for what was read. Assumes nothing.
use Rattle.std.proofs.Common.{arith}
use Rattle.text_bounds.proofs.Values.{enough-value, text_value}
use Rattle.text_calls.specs.Texts.{printed_for}
use Rattle.text_meaning.proofs.Calls.{reply_means}
use Rattle.text_program.proofs.Answered.{answered}
use Rattle.text_program.proofs.run.Goals as goal

pub read_text-n-requires : goal.read_text-n-requires
read_text-n-requires g c = omega (arith, enough-value)

pub reply-count-requires : goal.reply-count-requires
reply-count-requires g c = omega (arith, text_value)

pub returns : goal.returns
returns g c =
    record {
      answered = answered (printed_for c.args.kind) _ _ _ _ _ _ _ _ _ c.read_text-n.ensures.bytes c.reply-count.ensures.count c.reply-count.ensures.bytes c.write_all.ensures.bytes;
      meaning = reply_means c.args.kind;
    }
