-- Lines with a number (document 01, "Sheet and seed list").
--     number_line base k v        a line with the number v behind the bytes k
--     number_lines base k vs      such a line for each number
use Rattle.std.specs.Prelude.{List, [], ◌∷◌, ◌++◌, ℕ}
use Rattle.text_keys.specs.Bytes.{feed}
use Rattle.text_write_numbers.specs.Numerals.{numeral}

unfoldable pub number_line : ℕ → List ℕ → ℕ → List ℕ
number_line base k v = k ++ (numeral base v ++ (feed ∷ []))

unfoldable pub number_lines : ℕ → List ℕ → List ℕ → List ℕ
number_lines base k [] = []
number_lines base k (v ∷ vs) = number_line base k v ++ number_lines base k vs
