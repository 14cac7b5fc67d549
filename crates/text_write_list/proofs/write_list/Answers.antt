-- `text_write_list::write_list` meets its contract: its text is short enough to be put.
-- Assumes nothing.
use Rattle.std.proofs.Common.{rules, of_calls}
use Rattle.text_write_list.proofs.Lengths.{list_length}
use Rattle.text_write_list.proofs.write_list.Goals as goal

pub write-requires : goal.write-requires
write-requires c =
    let a = c.args in
    let short = list_length a.head.now a.chains a.stop a.slices a.seeds.now c.requires.0 c.requires.1 c.requires.2 in
    search (rules, of_calls)
