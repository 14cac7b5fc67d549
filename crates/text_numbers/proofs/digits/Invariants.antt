-- `text_numbers::digits` meets its contract. The invariant: the digits that are left, after v, say what all say from 0; and v is below a power of the base.
-- Assumes nothing.
use mathlib.Core.Path.{◌≡◌}
use Prim.Native.Nat.{◌^◌, ◌<◌}
use lib.ListN.{drop}
use Rattle.text_numbers.specs.Numbers.{digits}
use Rattle.text_numbers.proofs.digits.Given as goal

abbrev pub invariant-loop-b : goal.invariant-loop-b
invariant-loop-b l = (l.v < l.base ^ l.b-index) × (digits l.base l.v (drop l.b-index l.value) ≡ digits l.base 0 l.value)
