-- The longest window from a start (document 01, "Covering and cutting": "Each window is the longest that any state covers"). The part of the set that it may take is handed in; a window that takes all of it closes with its stop where `closing` says so, a shorter one always.
--     closes_at closing w k         a window of the first k slices of the part w closes with its stop
--     seed_for M stop closing w k   the seed of the first k slices, or none
--     longest M stop closing w     how many slices the longest covered window takes, or none
--     reach_of M stop closing w     the same with its seed, or none
use Rattle.std.specs.Prelude.{Bool, ◌&&◌, ◌||◌, List, ℕ, suc, ltb, length, take, None, Option, Some, unwrap_or}
use Rattle.words_bounded.specs.Bounded.{last_below}
use Rattle.machine_settings.specs.Machine.{Machine}
use Rattle.machine_slices.specs.declared.TestSlice.{TestSlice}
use Rattle.theory_covering.specs.Covering.{seed_of}
use Rattle.theory_covering.specs.Windows.{found}
use Rattle.window_lengths.specs.declared.Window.{Window}

abbrev pub closes_at : Bool → List TestSlice → ℕ → Bool
closes_at closing w k = closing || ltb k (length w)

unfoldable pub seed_for : Machine → TestSlice → Bool → List TestSlice → ℕ → Option ℕ
seed_for M stop closing w k = seed_of M stop (closes_at closing w k) (take k w)

unfoldable pub longest : Machine → TestSlice → Bool → List TestSlice → Option ℕ
longest M stop closing w = last_below (λ k. ltb 0 k && found (seed_for M stop closing w k)) (suc (length w))

unfoldable pub reach_of : Machine → TestSlice → Bool → List TestSlice → Option Window
reach_of M stop closing w = elim (longest M stop closing w) [
  | None ↦ None
  | Some k ↦ Some (record { slices = k; seed = unwrap_or (seed_for M stop closing w k) 0 })
]
