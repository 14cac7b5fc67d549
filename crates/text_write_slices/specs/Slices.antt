-- The slices that expanding gives, as they are written (document 01, "Sheet and seed list").
--     slice_lines n vs            a slice line for each slice that expanding gives
use Rattle.std.specs.Prelude.{List, [], ◌∷◌, ◌++◌, ℕ}
use Rattle.machine_slices.specs.Slices.{full}
use Rattle.text_keys.specs.Keys.{name}
use Rattle.text_keys.specs.declared.Key.TheVariants as key
use Rattle.text_write_characters.specs.Characters.{slice_line}

unfoldable pub slice_lines : ℕ → List ℕ → List ℕ
slice_lines n [] = []
slice_lines n (v ∷ vs) = slice_line n (name key.Slice) (full n v) ++ slice_lines n vs
