-- `text_write_numbers::put_number_line` meets its contract. The key, the number and the line feed are stored one after the other.
-- Assumes nothing.
use native.Mathlib.Omega.{arith}
use Rattle.text_write_numbers.specs.Lines.{number_line}
use Rattle.text_write_bytes.proofs.Storing.{join}
use Rattle.text_write_numbers.proofs.Lines.{line_parts}
use Rattle.text_write_numbers.proofs.put_number_line.Goals as goal

pub put-value-requires : goal.put-value-requires
put-value-requires c = let a = c.args in omega (arith, line_parts a.base a.key.now a.n)

pub put_number-end-requires : goal.put_number-end-requires
put_number-end-requires c =
    let a = c.args in
    (c.requires.0, c.requires.1, omega (arith, line_parts a.base a.key.now a.n))

pub put-requires : goal.put-requires
put-requires c = let a = c.args in omega (arith, line_parts a.base a.key.now a.n)

pub returns : goal.returns
unfolding number_line
returns c = join c.put-value.ensures (join c.put_number-end.ensures c.put.ensures)
