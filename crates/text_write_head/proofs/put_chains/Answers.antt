-- `text_write_head::put_chains` meets its contract. The lines are stored one after the other.
-- Assumes nothing.
use native.Mathlib.Omega.{arith}
use Rattle.text_keys.specs.Keys.{rows, row_at, name}
use Rattle.text_write_head.specs.Head.{chains_text}
use Rattle.text_write_bytes.proofs.Storing.{join}
use Rattle.text_write_head.proofs.Lengths.{chains_parts}
use Rattle.text_write_head.proofs.put_chains.Goals as goal

pub put_number_line-a-requires : goal.put_number_line-a-requires
put_number_line-a-requires c = let a = c.args in (omega arith, omega arith, omega (arith, chains_parts a.settings a.masks.now))

pub put_number_line-b-requires : goal.put_number_line-b-requires
put_number_line-b-requires c = let a = c.args in (omega arith, omega arith, omega (arith, chains_parts a.settings a.masks.now))

pub put_number_line-c-requires : goal.put_number_line-c-requires
put_number_line-c-requires c = let a = c.args in (omega arith, omega arith, omega (arith, chains_parts a.settings a.masks.now))

pub put_number_lines-requires : goal.put_number_lines-requires
put_number_lines-requires c = let a = c.args in (omega arith, omega arith, omega (arith, chains_parts a.settings a.masks.now))

pub returns : goal.returns
unfolding chains_text name row_at rows
returns c = join c.put_number_line-a.ensures (join c.put_number_line-b.ensures (join c.put_number_line-c.ensures c.put_number_lines.ensures))
