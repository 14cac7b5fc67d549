-- Lines with a number, line by line, and how long they are.
--     lines_go, lines_end      the lines of the numbers from i on
--     digits-length, numeral-length      at most 20 digits
--     line_parts, line_length      a line with a number
--     lines_length             such a line for each number
-- Assumes nothing.
use mathlib.Core.Path.{◌≡◌}
use mathlib.Core.List.{List, [], ◌∷◌, ◌++◌}
use Prim.Native.Nat.{ℕ, zero, suc, ◌+◌, ◌/◌, ◌%◌, ◌≤◌, ◌<◌, ◌*◌}
use native.Mathlib.Numerals.{add-one}
use native.Mathlib.Omega.{arith}
use lib.ListN.{length, get_or, drop, drop_of_length-le, length-append}
use lib.Seq.{drop-cons}
use mathlib.Core.Bool.{Bool, true, false}
use lib.Dec.{ltb}
use Rattle.text_write_numbers.specs.Numerals.{glyph, last_digits, numeral}
use Rattle.text_write_numbers.specs.Lines.{number_line, number_lines}

module _ (base : ℕ) (k vs : List ℕ) (i : ℕ) where
  pub lines_go : i < length vs → number_lines base k (drop i vs) ≡ number_line base k (get_or vs i 0) ++ number_lines base k (drop (i + 1) vs)
  unfolding number_lines
  lines_go h = rw (drop-cons vs i 0 h, add-one)

  pub lines_end : length vs ≤ i → number_lines base k (drop i vs) ≡ []
  unfolding number_lines
  lines_end h = rw (drop_of_length-le vs h)

digits-length : (d base n : ℕ) → length (last_digits d base n) ≤ d
unfolding last_digits
digits-length zero base n = omega arith
digits-length (suc d) base n = go (ltb n base) (digits-length d base (n / base))
  where
    go : (b : Bool) → length (last_digits d base (n / base)) ≤ d → length {A = ℕ} (elim b [ true ↦ glyph n ∷ [] | false ↦ last_digits d base (n / base) ++ (glyph (n % base) ∷ []) ]) ≤ suc d
    go true h = omega arith
    go false h = omega (arith, length-append (last_digits d base (n / base)) (glyph (n % base) ∷ []))

pub numeral-length : (base n : ℕ) → length (numeral base n) ≤ 20
unfolding numeral
numeral-length base n = digits-length 20 base n

pub line_parts : (base : ℕ) (k : List ℕ) (v : ℕ) → length (number_line base k v) ≡ length k + length (numeral base v) + 1
unfolding number_line
line_parts base k v = simp length-append (omega arith)

pub line_length : (base : ℕ) (k : List ℕ) (v : ℕ) → length (number_line base k v) ≤ length k + 21
line_length base k v = omega (arith, numeral-length base v, line_parts base k v)

pub lines_length : (base : ℕ) (k vs : List ℕ) → length (number_lines base k vs) ≤ (length k + 21) * length vs
unfolding number_lines
lines_length base k [] = omega arith
lines_length base k (v ∷ vs) = omega (arith, line_length base k v, lines_length base k vs, length-append (number_line base k v) (number_lines base k vs))
