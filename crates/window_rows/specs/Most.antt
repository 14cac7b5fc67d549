-- How many slices of a part some state can pass.
--     Most P w cells k            w has k slices or more, and no state passes P on more than the first k of them
use Rattle.std.specs.Prelude.{◌≡◌, Bool, false, List, ℕ, ◌^◌, ◌≤◌, ◌<◌, length, take}
use Rattle.machine_slices.specs.declared.TestSlice.{TestSlice}

pub record Most (P : List TestSlice → ℕ → Bool) (w : List TestSlice) (cells k : ℕ) : Type 0 where
  pub within : k ≤ length w
  pub more : (j s : ℕ) → k < j → j ≤ length w → s < 2 ^ cells → P (take j w) s ≡ false
