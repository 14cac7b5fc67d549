-- What the answer of the call for a stop slice means (document 01, "Stop slice steps"; document 02, R-1).
--     FormedMeaning .. r     the first of causes 2, 3, 4 that holds; then the stop slice of the steps where they give one, or else the spare pattern; a stop slice is good, and 6 comes exactly where none is
use Rattle.std.specs.Prelude.{◌≡◌, List, ◌↔◌, ℕ, Err, None, Ok, Result, Some}
use Rattle.refusal_causes.specs.declared.Cause.{Cause}
use Rattle.machine_slices.specs.declared.TestSlice.{TestSlice}
use Rattle.machine_slices.specs.Slices.{paired}
use Rattle.refusal_order.specs.Order.{judged}
use Rattle.refusal_checks.specs.Calls.{stop_faults}
use Rattle.stop_steps.specs.Steps.{steps}
use Rattle.stop_steps.specs.Meaning.{StopMeaning, NoneGood, LeftIn, SixMeaning}
use Rattle.stop_spare.specs.Spare.{spare_stop}
use Rattle.stop_slice.specs.Entry.{stop_or6}
use Rattle.refusal_causes.specs.declared.Cause.TheVariants as cause

pub record FormedMeaning (chains : ℕ) (specified bits : List ℕ) (r : Result TestSlice Cause) : Type 0 where
  pub unformed : (c : Cause) → judged (stop_faults chains specified bits) ≡ Err c → r ≡ Err c
  pub decided : judged (stop_faults chains specified bits) ≡ Ok tt → (stop : TestSlice) → steps chains (paired specified bits) ≡ Some stop → r ≡ Ok stop
  pub spared : judged (stop_faults chains specified bits) ≡ Ok tt → steps chains (paired specified bits) ≡ None → LeftIn chains (paired specified bits) × (r ≡ stop_or6 (spare_stop chains (paired specified bits)))
  pub good : (stop : TestSlice) → r ≡ Ok stop → StopMeaning chains (paired specified bits) stop
  pub six : judged (stop_faults chains specified bits) ≡ Ok tt → (c : Cause) → r ≡ Err c → (c ≡ cause.AllTaken) × SixMeaning chains (paired specified bits)
  pub exactly : judged (stop_faults chains specified bits) ≡ Ok tt → (r ≡ Err cause.AllTaken) ↔ NoneGood chains (paired specified bits)
