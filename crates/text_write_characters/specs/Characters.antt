-- Slices as they are written (document 01, "Sheet and seed list").
--     character p b         the character of a position that is specified (p = 1) or not (0), with the bit b
--     characters n s        the characters of the slice s for n chains
--     slice_line n k s       a line with the slice s of n chains behind the bytes k
use Rattle.std.specs.Prelude.{List, [], ◌∷◌, ◌++◌, ℕ, zero, suc, ◌+◌, ◌/◌, ◌%◌}
use Rattle.machine_slices.specs.declared.TestSlice.{TestSlice}
use Rattle.text_keys.specs.Bytes.{feed}

-- The characters 0 and 1 have the codes 48 and 49, x 120.
unfoldable pub character : ℕ → ℕ → ℕ
character zero b = 120
character (suc p) b = b + 48

-- The first character is that of chain 1, which has the least weight.
unfoldable pub characters : ℕ → TestSlice → List ℕ
characters zero s = []
characters (suc n) s = character (s.specified % 2) (s.bits % 2) ∷ characters n (record { specified = s.specified / 2; bits = s.bits / 2 })

unfoldable pub slice_line : ℕ → List ℕ → TestSlice → List ℕ
slice_line n k s = k ++ (characters n s ++ (feed ∷ []))
