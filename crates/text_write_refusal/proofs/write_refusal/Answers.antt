-- `text_write_refusal::write_refusal` meets its contract: its text is short enough to be put.
-- Assumes nothing.
use Rattle.std.proofs.Common.{rules, of_calls}
use Rattle.text_write_refusal.proofs.Lengths.{refused_length}
use Rattle.text_write_refusal.proofs.write_refusal.Goals as goal

pub write-requires : goal.write-requires
write-requires c = let short = refused_length c.args.refusal in search (rules, of_calls)
