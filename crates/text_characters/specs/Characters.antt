-- Slices in lines (document 01, "Register and chains" and "Sheet and seed list": "exactly one character, 0, 1 or x, for each chain"). Chain j has weight 2 ^ (j - 1) and is the j-th character from the left.
--     is_character b       the byte b is 0, 1 or x
--     specified_at b       1 where the character specifies a bit
--     bit_at b             the bit, 0 where there is none
--     in_front b r         what characters say, r, with the character b in front
--     slice_of l           what the characters l say: their slice, or nothing
use Rattle.machine_slices.specs.declared.TestSlice.{TestSlice}
use Rattle.std.specs.Prelude.{Bool, true, false, ◌||◌, List, [], ◌∷◌, ℕ, ◌+◌, ◌*◌, eqb, None, Option, Some}

-- The characters 0, 1 and x have the codes 48, 49 and 120.
unfoldable pub is_character : ℕ → Bool
is_character b = eqb b 48 || eqb b 49 || eqb b 120

unfoldable pub specified_at : ℕ → ℕ
specified_at b = elim (eqb b 120) [ true ↦ 0 | false ↦ 1 ]

unfoldable pub bit_at : ℕ → ℕ
bit_at b = elim (eqb b 49) [ true ↦ 1 | false ↦ 0 ]

-- A character in front has the weight 1, and those after it the double of what they had.
unfoldable pub in_front : ℕ → Option TestSlice → Option TestSlice
in_front b None = None
in_front b (Some s) = elim (is_character b) [
  | true ↦ Some (record { specified = s.specified * 2 + specified_at b; bits = s.bits * 2 + bit_at b })
  | false ↦ None
]

unfoldable pub slice_of : List ℕ → Option TestSlice
slice_of [] = Some (record { specified = 0; bits = 0 })
slice_of (b ∷ l) = in_front b (slice_of l)
