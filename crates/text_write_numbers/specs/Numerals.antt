-- Numbers as they are written (document 01, "Sheet and seed list").
--     glyph d               the byte of a digit
--     last_digits d base n   the digits of n; the last d of them where there are more
--     numeral base n        the digits of n
use Rattle.std.specs.Prelude.{true, false, List, [], ◌∷◌, ◌++◌, ℕ, zero, suc, ◌+◌, ◌/◌, ◌%◌, ltb}

-- The characters 0 to 9 have the codes 48 to 57, a to f 97 to 102.
unfoldable pub glyph : ℕ → ℕ
glyph d = elim (ltb d 10) [ true ↦ d + 48 | false ↦ d + 87 ]

unfoldable pub last_digits : ℕ → ℕ → ℕ → List ℕ
last_digits zero base n = []
last_digits (suc d) base n = elim (ltb n base) [ true ↦ glyph n ∷ [] | false ↦ last_digits d base (n / base) ++ (glyph (n % base) ∷ []) ]

-- A word has at most 20 decimal digits.
unfoldable pub numeral : ℕ → ℕ → List ℕ
numeral base n = last_digits 20 base n
