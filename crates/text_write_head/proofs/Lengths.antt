-- How long the lines are that a list repeats from its sheet.
--     chains_parts, head-parts     line by line
--     head-length                  at most
-- Assumes nothing.
use mathlib.Core.Path.{◌≡◌}
use mathlib.Core.List.{List}
use Prim.Native.Nat.{ℕ, ◌+◌, ◌*◌, ◌≤◌}
use native.Mathlib.Omega.{arith}
use lib.ListN.{length, length-append}
use Rattle.machine_settings.specs.declared.Settings.{Settings}
use Rattle.text_keys.specs.Bytes.{bytes}
use Rattle.text_keys.specs.Keys.{rows, row_at, name}
use Rattle.text_write_numbers.specs.Lines.{number_line, number_lines}
use Rattle.text_write_head.specs.Head.{chains_text, head_text}
use Rattle.text_write_numbers.proofs.Lines.{line_length, lines_length}

module _ (g : Settings) (masks : List ℕ) where
  pub chains_parts : length (chains_text g masks) ≡ length (number_line 10 (bytes "cells=") g.cells) + length (number_line 16 (bytes "taps=") g.taps) + length (number_line 10 (bytes "chains=") (length masks)) + length (number_lines 16 (bytes "chain=") masks)
  unfolding chains_text name row_at rows
  chains_parts = simp length-append (omega arith)

  module _ (inverts windows : List ℕ) where
    pub head-parts : length (head_text g masks inverts windows) ≡ length (chains_text g masks) + length (number_lines 16 (bytes "invert=") inverts) + length (number_lines 10 (bytes "window=") windows)
    unfolding head_text name row_at rows
    head-parts = simp length-append (omega arith)

    pub head-length : length (head_text g masks inverts windows) ≤ 81 + 27 * length masks + 28 * length inverts + 28 * length windows
    head-length =
        let p = chains_parts in
        let h = head-parts in
        let c = line_length 10 (bytes "cells=") g.cells in
        let t = line_length 16 (bytes "taps=") g.taps in
        let n = line_length 10 (bytes "chains=") (length masks) in
        let m = lines_length 16 (bytes "chain=") masks in
        let i = lines_length 16 (bytes "invert=") inverts in
        let w = lines_length 10 (bytes "window=") windows in
        omega arith
