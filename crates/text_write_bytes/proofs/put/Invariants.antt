-- `text_write_bytes::put` meets its contract. The invariant: what is left of the bytes, stored from here on, gives what all of them give.
-- Assumes nothing.
use Prim.Native.Nat.{◌+◌}
use lib.ListN.{drop}
use Rattle.text_write_bytes.proofs.Storing.{Left}
use Rattle.text_write_bytes.proofs.put.Given as goal

abbrev pub invariant-loop-i : goal.invariant-loop-i
invariant-loop-i l = Left l.initial.out l.at l.part l.out (l.at + l.i) (drop l.i l.part)
