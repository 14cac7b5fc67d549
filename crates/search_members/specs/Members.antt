-- The members of a space by number.
--     choose n a b         a where n is 0, else b
--     pick x vs i          member number i: x, with each vector added whose digit in i is 1
use Rattle.std.specs.Prelude.{List, [], ◌∷◌, ℕ, zero, suc, ◌/◌, ◌%◌}
use Rattle.std.specs.Int.Bits.{bit_xor}

abbrev pub choose : ℕ → ℕ → ℕ → ℕ
choose zero a b = a
choose (suc n) a b = b

-- Members in rising order where the vectors rise.
unfoldable pub pick : ℕ → List ℕ → ℕ → ℕ
pick x [] i = x
pick x (v ∷ vs) i = pick (choose (i % 2) x (bit_xor x v)) vs (i / 2)
