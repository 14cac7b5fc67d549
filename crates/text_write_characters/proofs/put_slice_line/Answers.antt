-- `text_write_characters::put_slice_line` meets its contract. The key, the characters and the line feed are stored one after the other.
-- Assumes nothing.
use native.Mathlib.Omega.{arith}
use Rattle.text_write_characters.specs.Characters.{slice_line}
use Rattle.text_write_bytes.proofs.Storing.{join}
use Rattle.text_write_characters.proofs.Characters.{characters-length, slice-length}
use Rattle.text_write_characters.proofs.put_slice_line.Goals as goal

pub put-value-requires : goal.put-value-requires
put-value-requires c = let a = c.args in omega (arith, slice-length a.chains a.key.now a.slice)

pub put_characters-end-requires : goal.put_characters-end-requires
put_characters-end-requires c = let a = c.args in omega (arith, slice-length a.chains a.key.now a.slice)

pub put-requires : goal.put-requires
put-requires c = let a = c.args in omega (arith, characters-length a.chains a.slice, slice-length a.chains a.key.now a.slice)

pub returns : goal.returns
unfolding slice_line
returns c = join c.put-value.ensures (join c.put_characters-end.ensures c.put.ensures)
