-- `text_write_bytes::put` meets its contract. The invariant: what is left of the bytes, stored from here on, gives what all of them give.
-- Assumes nothing.
use mathlib.Core.Path.{◌≡◌}
use native.Mathlib.Nat.{add-zero}
use native.Mathlib.Omega.{arith}
use lib.ListN.{length, drop_of_length-le}
use Rattle.text_write_bytes.proofs.Storing.{stored_byte, left-start, left-length, left-next, left_end, bytes_go}
use Rattle.text_write_bytes.proofs.put.Goals as goal

pub loop-i-init : goal.loop-i-init
loop-i-init c = rw add-zero left-start

pub overflow_add-at : goal.overflow_add-at
overflow_add-at c = omega arith

pub loop-i-preserved : goal.loop-i-preserved
loop-i-preserved c =
    left-next c.loop-i.invariant (bytes_go c.args.part.now c.loop-i.i (omega arith)) (stored_byte (omega arith) c.put_byte.ensures)

pub overflow_add-result : goal.overflow_add-result
overflow_add-result c = omega arith

pub shape_of-out : goal.shape_of-out
shape_of-out c = left-length c.loop-i.invariant

pub returns : goal.returns
returns c =
    let part = c.args.part.now in
    let all : c.loop-i.i ≡ length part = omega arith in
    left_end (rw all at c.loop-i.invariant) (drop_of_length-le part {i = length part} (omega arith))
