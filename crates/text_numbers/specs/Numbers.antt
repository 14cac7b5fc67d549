-- Numbers in lines (document 01, "Sheet and seed list": decimal or lower-case hexadecimal, so many digits; "neither has leading zeros, except 0 itself").
--     worth b               what the byte b is worth as a digit, 0 to 9 and a to f; 16 where it is none
--     digits base v l       the number of the digits l after digits that say v, or nothing
--     leading_zero l         a 0 stands before other bytes
--     number base most l    the number that l says in 1 to most digits, or nothing
use Rattle.std.specs.Prelude.{Bool, true, false, not, ◌&&◌, List, [], ◌∷◌, ℕ, ◌+◌, ◌-◌, ◌*◌, ltb, eqb, length, None, Option, Some}
use Rattle.words_bounded.specs.Bounded.{within}

-- The characters 0 to 9 have the codes 48 to 57, a to f 97 to 102.
unfoldable pub worth : ℕ → ℕ
worth b = elim (within 48 57 b) [ true ↦ b - 48 | false ↦ elim (within 97 102 b) [ true ↦ b - 87 | false ↦ 16 ] ]

unfoldable pub digits : ℕ → ℕ → List ℕ → Option ℕ
digits base v [] = Some v
digits base v (b ∷ l) = elim (ltb (worth b) base) [ true ↦ digits base (v * base + worth b) l | false ↦ None ]

unfoldable pub leading_zero : List ℕ → Bool
leading_zero [] = false
leading_zero (b ∷ []) = false
leading_zero (b ∷ c ∷ l) = eqb b 48

unfoldable pub number : ℕ → ℕ → List ℕ → Option ℕ
number base most l = elim (within 1 most (length l) && not (leading_zero l)) [ true ↦ digits base 0 l | false ↦ None ]
