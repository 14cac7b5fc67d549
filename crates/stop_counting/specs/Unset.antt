-- A position that is unset.
--     Unset p stop              position p of a word is unset in a stop slice whose bits are specified
use Rattle.std.specs.Prelude.{◌≡◌, false, ℕ, ◌<◌}
use Rattle.machine_slices.specs.declared.TestSlice.{TestSlice}
use Rattle.stop_steps.specs.Steps.{is_set}
use Rattle.stop_steps.specs.Lookup.{BitsSpecified}

pub record Unset (p : ℕ) (stop : TestSlice) : Type 0 where
  pub within : p < 64
  pub unset : is_set p stop ≡ false
  pub specified : BitsSpecified stop
