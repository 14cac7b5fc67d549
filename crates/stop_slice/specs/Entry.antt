-- The call for the stop slice of a set (document 01, its refusal sheet): causes 2, 3, 4, then 6.
--     stop_or6 o     the stop slice, or cause 6
--     stop_of chains specified bits     the answer of the call
use Rattle.refusal_causes.specs.declared.Cause.{Cause}
use Rattle.std.specs.Prelude.{List, ℕ, Err, None, Ok, Option, Result, Some}
use Rattle.refusal_causes.specs.declared.Cause.TheVariants as cause
use Rattle.machine_slices.specs.declared.TestSlice.{TestSlice}
use Rattle.machine_slices.specs.Slices.{paired}
use Rattle.refusal_order.specs.Order.{judged}
use Rattle.refusal_checks.specs.Calls.{stop_faults}
use Rattle.stop_steps.specs.Steps.{stop_for}

unfoldable pub stop_or6 : Option TestSlice → Result TestSlice Cause
stop_or6 None = Err cause.AllTaken
stop_or6 (Some stop) = Ok stop

unfoldable pub stop_of : ℕ → List ℕ → List ℕ → Result TestSlice Cause
stop_of chains specified bits = elim (judged (stop_faults chains specified bits)) [
  | Err c ↦ Err c
  | (Ok tt) ↦ stop_or6 (stop_for chains (paired specified bits))
]
