-- `text_entries::numbers` meets its contract. The invariant: what is left of the list, picked from here on, fills the other as the whole does. Assumes nothing.
use Prim.Native.Nat.{◌-◌}
use lib.ListN.{length}
use Rattle.text_entries.proofs.Picking.{Left}
use Rattle.text_entries.proofs.numbers.Given as goal

abbrev pub invariant-loop-i : goal.invariant-loop-i
invariant-loop-i l = Left l.entries l.initial.list l.key l.part l.list l.count l.i

abbrev pub decreases-loop-i : goal.decreases-loop-i
decreases-loop-i l = length l.entries - l.i
