-- Seed lists as they are written (document 01, "Sheet and seed list").
--     list_text head chains stop slices seeds     the seed list of a sheet whose lines before depth are the bytes head
use Rattle.std.specs.Prelude.{List, ◌++◌, ℕ}
use Rattle.machine_slices.specs.declared.TestSlice.{TestSlice}
use Rattle.text_keys.specs.Keys.{name}
use Rattle.text_keys.specs.declared.Key.TheVariants as key
use Rattle.text_write_numbers.specs.Lines.{number_line, number_lines}
use Rattle.text_write_characters.specs.Characters.{slice_line}

-- The list repeats every sheet line that stands before depth. slices is the total of test slices.
unfoldable pub list_text : List ℕ → ℕ → TestSlice → ℕ → List ℕ → List ℕ
list_text head chains stop slices seeds =
    head
    ++ (slice_line chains (name key.Stop) stop
    ++ (number_line 10 (name key.Slices) slices
    ++ number_lines 16 (name key.Seed) seeds))
