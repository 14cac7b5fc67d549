-- Numbers at the boundary: what an entry hands to the definitions.
--     settings_of s                  the settings of the call: its cells, its taps, its limit and its inverted chains
--     test_slice_of specified bits    the test slice or stop slice of two numbers
use Rattle.std.specs.Prelude.{ℕ}
use Rattle.machine_settings.specs.declared.Settings as called
use Rattle.machine_slices.specs.declared.TestSlice.{TestSlice}
use Rattle.face_values.specs.declared.Settings.{Settings}

abbrev pub settings_of : Settings → called.Settings
settings_of s = record { cells = s.cells; taps = s.taps; limit = s.limit; invert = s.invert }

abbrev pub test_slice_of : ℕ → ℕ → TestSlice
test_slice_of specified bits = record { specified = specified; bits = bits }
