-- `text_write_characters::put_characters` meets its contract. The invariant: the characters of the chains that are left, stored from here on, give what all of them give.
-- Assumes nothing.
use mathlib.Core.Path.{◌≡◌}
use native.Mathlib.Nat.{add-zero, sub-zero}
use native.Mathlib.Omega.{arith}
use Rattle.text_write_bytes.proofs.Storing.{stored_byte, left-start, left-length, left-next, left_end}
use Rattle.text_write_characters.proofs.Characters.{characters_go, characters_end}
use Rattle.text_write_characters.proofs.put_characters.Goals as goal

pub loop-i-init : goal.loop-i-init
loop-i-init c = rw (add-zero, sub-zero) left-start

pub overflow_add-at : goal.overflow_add-at
overflow_add-at c = omega arith

pub character-requires : goal.character-requires
character-requires c = omega arith

pub loop-i-preserved : goal.loop-i-preserved
loop-i-preserved c =
    let e = characters_go c.args.chains c.loop-i.i (record { specified = c.loop-i.specified; bits = c.loop-i.bits }) (omega arith) in
    left-next c.loop-i.invariant (rw c.character.ensures e) (stored_byte (omega arith) c.put_byte.ensures)

pub overflow_add-result : goal.overflow_add-result
overflow_add-result c = omega arith

pub shape_of-out : goal.shape_of-out
shape_of-out c = left-length c.loop-i.invariant

pub returns : goal.returns
returns c =
    let n = c.args.chains in
    let all : c.loop-i.i ≡ n = omega arith in
    left_end (rw all at c.loop-i.invariant) (characters_end n n (record { specified = c.loop-i.specified; bits = c.loop-i.bits }) (omega arith))
