-- The states that are quiet in the slices of a window.
--     quiet_meet c table p stops w s     s meets the slices w and shows the stop in none of them
use Rattle.std.specs.Prelude.{Bool, ◌&&◌, List, ℕ, length}
use Rattle.machine_slices.specs.declared.TestSlice.{TestSlice}
use Rattle.search_rows.specs.declared.Pattern.{Pattern}
use Rattle.search_rows.specs.Rows.{clear}
use Rattle.window_rows.specs.Meeting.{all_meet}

unfoldable pub quiet_meet : ℕ → List ℕ → Pattern → List ℕ → List TestSlice → ℕ → Bool
quiet_meet c table p stops w s = all_meet c table 0 w s && clear p stops (length w) s
