-- `text_write_list::put_list` meets its contract. The head and the lines after it are stored one after the other.
-- Assumes nothing.
use native.Mathlib.Omega.{arith}
use Rattle.text_keys.specs.Keys.{rows, row_at, name}
use Rattle.text_write_list.specs.SeedList.{list_text}
use Rattle.text_write_bytes.proofs.Storing.{join}
use Rattle.text_write_list.proofs.Lengths.{list_parts}
use Rattle.text_write_list.proofs.put_list.Goals as goal

pub put-a-requires : goal.put-a-requires
put-a-requires c = let a = c.args in omega (arith, list_parts a.head.now a.chains a.stop a.slices a.seeds.now)

pub put_slice_line-b-requires : goal.put_slice_line-b-requires
put_slice_line-b-requires c = let a = c.args in omega (arith, list_parts a.head.now a.chains a.stop a.slices a.seeds.now)

pub put_number_line-c-requires : goal.put_number_line-c-requires
put_number_line-c-requires c = let a = c.args in (omega arith, omega arith, omega (arith, list_parts a.head.now a.chains a.stop a.slices a.seeds.now))

pub put_number_lines-requires : goal.put_number_lines-requires
put_number_lines-requires c = let a = c.args in (omega arith, omega arith, omega (arith, list_parts a.head.now a.chains a.stop a.slices a.seeds.now))

pub returns : goal.returns
unfolding list_text name row_at rows
returns c = join c.put-a.ensures (join c.put_slice_line-b.ensures (join c.put_number_line-c.ensures c.put_number_lines.ensures))
