-- The lines that a seed list repeats from its sheet (document 01, "Sheet and seed list"; document 02, R-3 and R-4).
--     chains_text g masks     those of register and chains
--     head_text g masks inverts windows     all of a call with the settings g; inverts has the number of the invert line, or none where there is no such line, and windows that of the window line
use Rattle.std.specs.Prelude.{List, ◌++◌, ℕ, length}
use Rattle.machine_settings.specs.declared.Settings.{Settings}
use Rattle.text_keys.specs.Keys.{name}
use Rattle.text_keys.specs.declared.Key.TheVariants as key
use Rattle.text_write_numbers.specs.Lines.{number_line, number_lines}

unfoldable pub chains_text : Settings → List ℕ → List ℕ
chains_text g masks =
    number_line 10 (name key.Cells) g.cells
    ++ (number_line 16 (name key.Taps) g.taps
    ++ (number_line 10 (name key.Chains) (length masks)
    ++ number_lines 16 (name key.Chain) masks))

-- Every sheet line that stands before depth.
unfoldable pub head_text : Settings → List ℕ → List ℕ → List ℕ → List ℕ
head_text g masks inverts windows =
    chains_text g masks
    ++ (number_lines 16 (name key.Invert) inverts
    ++ number_lines 10 (name key.Window) windows)
