-- The slices of a state before its stop.
--     until_stop M stop d s      the slices of the state s before its stop, at most d
use Rattle.std.specs.Prelude.{true, false, List, [], ◌∷◌, ℕ, zero, suc}
use Rattle.machine_settings.specs.Machine.{Machine}
use Rattle.machine_slices.specs.declared.TestSlice.{TestSlice}
use Rattle.machine_slices.specs.Slices.{shows}

unfoldable pub until_stop : Machine → TestSlice → ℕ → ℕ → List ℕ
until_stop M stop zero s = []
until_stop M stop (suc d) s = elim (shows stop (M.slice s)) [ true ↦ [] | false ↦ M.slice s ∷ until_stop M stop d (M.step s) ]
