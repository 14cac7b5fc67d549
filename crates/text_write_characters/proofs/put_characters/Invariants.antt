-- `text_write_characters::put_characters` meets its contract. The invariant: the characters of the chains that are left, stored from here on, give what all of them give.
-- Assumes nothing.
use Prim.Native.Nat.{◌+◌, ◌-◌}
use Rattle.text_write_characters.specs.Characters.{characters}
use Rattle.text_write_bytes.proofs.Storing.{Left}
use Rattle.text_write_characters.proofs.put_characters.Given as goal

abbrev pub invariant-loop-i : goal.invariant-loop-i
invariant-loop-i l = Left l.initial.out l.at (characters l.chains (record { specified = l.initial.specified; bits = l.initial.bits })) l.out (l.at + l.i) (characters (l.chains - l.i) (record { specified = l.specified; bits = l.bits }))
