-- `text_write_slices::write_slices` meets its contract: its text is short enough to be put.
-- Assumes nothing.
use Rattle.std.proofs.Common.{rules, of_calls}
use Rattle.text_write_slices.proofs.Slices.{slices_bound}
use Rattle.text_write_slices.proofs.write_slices.Goals as goal

pub write-requires : goal.write-requires
write-requires c = let short = slices_bound c.args.chains c.args.slices.now c.requires.0 c.requires.1 in search (rules, of_calls)
