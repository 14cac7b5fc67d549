-- How long a seed list is.
--     list_parts, list_bound, list_length      a seed list
-- Assumes nothing.
use mathlib.Core.Path.{◌≡◌}
use mathlib.Core.List.{List}
use Prim.Native.Nat.{ℕ, ◌+◌, ◌*◌, ◌≤◌}
use native.Mathlib.Omega.{arith}
use lib.ListN.{length, length-append}
use Rattle.machine_slices.specs.declared.TestSlice.{TestSlice}
use Rattle.text_keys.specs.Bytes.{bytes}
use Rattle.text_keys.specs.Keys.{rows, row_at, name}
use Rattle.text_write_numbers.specs.Lines.{number_line, number_lines}
use Rattle.text_write_characters.specs.Characters.{slice_line}
use Rattle.text_write_list.specs.SeedList.{list_text}
use Rattle.text_write_numbers.proofs.Lines.{line_length, lines_length}
use Rattle.text_write_characters.proofs.Characters.{slice-length}

module _ (head : List ℕ) (chains : ℕ) (stop : TestSlice) (slices : ℕ) (seeds : List ℕ) where
  pub list_parts : length (list_text head chains stop slices seeds) ≡ length head + length (slice_line chains (bytes "stop=") stop) + length (number_line 10 (bytes "slices=") slices) + length (number_lines 16 (bytes "seed=") seeds)
  unfolding list_text name row_at rows
  list_parts = simp length-append (omega arith)

  pub list_bound : length (list_text head chains stop slices seeds) ≤ length head + (34 + chains + 26 * length seeds)
  list_bound =
      let q = list_parts in
      let p = slice-length chains (bytes "stop=") stop in
      let n = line_length 10 (bytes "slices=") slices in
      let m = lines_length 16 (bytes "seed=") seeds in
      omega arith

  pub list_length : length head ≤ 65536 → chains ≤ 64 → length seeds ≤ 2048 → length (list_text head chains stop slices seeds) ≤ 120000
  list_length h c s = omega (arith, list_bound)
