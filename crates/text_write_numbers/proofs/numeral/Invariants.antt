-- `text_write_numbers::numeral` meets its contract. The invariant: the digits of what is left, before those that stand in the array, are the digits of the number.
-- Assumes nothing.
use mathlib.Core.Path.{◌≡◌}
use mathlib.Core.List.{◌++◌}
use Prim.Native.Nat.{◌^◌, ◌≤◌, ◌<◌}
use lib.ListN.{length, drop}
use Rattle.text_write_numbers.specs.Numerals.{last_digits, numeral}
use Rattle.text_write_numbers.proofs.numeral.Given as goal

abbrev pub invariant-loop-rest : goal.invariant-loop-rest
invariant-loop-rest l = (1 ≤ l.i) × (l.i ≤ 20) × (length l.digits ≡ 20) × (l.rest < l.base ^ l.i) × (last_digits l.i l.base l.rest ++ drop l.i l.digits ≡ numeral l.base l.n)

abbrev pub decreases-loop-rest : goal.decreases-loop-rest
decreases-loop-rest l = l.rest
