-- `text_reading::scan` meets its contract. The invariant: what is left of the text, read from here on, fills the list as the whole does. Assumes nothing.
use Prim.Native.Nat.{◌-◌}
use lib.ListN.{length}
use Rattle.text_reading.proofs.Scanning.{Left}
use Rattle.text_reading.proofs.scan.Given as goal

abbrev pub invariant-loop-at : goal.invariant-loop-at
invariant-loop-at l = Left l.kind l.text l.initial.entries l.entries l.place l.n l.at l.next

abbrev pub decreases-loop-at : goal.decreases-loop-at
decreases-loop-at l = length l.text - l.at
