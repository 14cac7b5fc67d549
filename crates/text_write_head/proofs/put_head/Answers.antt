-- `text_write_head::put_head` meets its contract. The lines are stored one after the other.
-- Assumes nothing.
use native.Mathlib.Omega.{arith}
use Rattle.text_keys.specs.Keys.{rows, row_at, name}
use Rattle.text_write_head.specs.Head.{head_text}
use Rattle.text_write_bytes.proofs.Storing.{join}
use Rattle.text_write_head.proofs.Lengths.{head-parts}
use Rattle.text_write_head.proofs.put_head.Goals as goal

pub put_chains-a-requires : goal.put_chains-a-requires
put_chains-a-requires c = let a = c.args in omega (arith, head-parts a.settings a.masks.now a.inverts.now a.windows.now)

pub put_number_lines-b-requires : goal.put_number_lines-b-requires
put_number_lines-b-requires c = let a = c.args in (omega arith, omega arith, omega (arith, head-parts a.settings a.masks.now a.inverts.now a.windows.now))

pub put_number_lines-requires : goal.put_number_lines-requires
put_number_lines-requires c = let a = c.args in (omega arith, omega arith, omega (arith, head-parts a.settings a.masks.now a.inverts.now a.windows.now))

pub returns : goal.returns
unfolding head_text name row_at rows
returns c = join c.put_chains-a.ensures (join c.put_number_lines-b.ensures c.put_number_lines.ensures)
