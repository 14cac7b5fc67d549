-- The closing stop of a window.
--     closed c table stop closing n s    s shows the stop after n slices, where it must
--     allowed c table stop closing w s   s meets the slices w and, where it must close, shows the stop after them
use Rattle.std.specs.Prelude.{Bool, not, ◌&&◌, ◌||◌, List, ℕ, length}
use Rattle.search_rows.specs.Rows.{row}
use Rattle.machine_slices.specs.declared.TestSlice.{TestSlice}
use Rattle.window_rows.specs.Meeting.{meets, all_meet}

unfoldable pub closed : ℕ → List ℕ → TestSlice → Bool → ℕ → ℕ → Bool
closed c table stop closing n s = not closing || meets (row c table n) stop.specified stop.bits s

-- The bits alone, and with the closing stop.
unfoldable pub allowed : ℕ → List ℕ → TestSlice → Bool → List TestSlice → ℕ → Bool
allowed c table stop closing w s = all_meet c table 0 w s && closed c table stop closing (length w) s
