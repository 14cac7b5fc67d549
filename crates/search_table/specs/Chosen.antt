-- The specified positions of a slice, without the others.
--     chosen specified masks           the masks of the chains at the specified positions
--     packed specified bits chains     the bits at the specified positions among so many chains, one after the other
use Rattle.std.specs.Prelude.{true, false, List, [], ◌∷◌, ℕ, zero, suc, ◌+◌, ◌*◌, ◌/◌, ◌%◌, eqb}

unfoldable pub chosen : ℕ → List ℕ → List ℕ
chosen specified [] = []
chosen specified (m ∷ ms) = elim (eqb (specified % 2) 1) [ true ↦ m ∷ chosen (specified / 2) ms | false ↦ chosen (specified / 2) ms ]

unfoldable pub packed : ℕ → ℕ → ℕ → ℕ
packed specified bits zero = 0
packed specified bits (suc n) = elim (eqb (specified % 2) 1) [ true ↦ bits % 2 + 2 * packed (specified / 2) (bits / 2) n | false ↦ packed (specified / 2) (bits / 2) n ]
