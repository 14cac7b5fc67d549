-- The pivot of a mask taken out of the vectors of a space.
--     added mask p w       the vector w, with p added where w is odd under the mask
--     pivot mask vs        the first vector that is odd under the mask, or 0 where none is
--     without mask vs      the vectors with the pivot taken out: it is added to each later one that is odd
use Rattle.std.specs.Prelude.{true, false, List, [], ◌∷◌, map, ℕ, eqb}
use Rattle.std.specs.Int.Bits.{bit_xor}
use Rattle.words_gf2.specs.Words.{odd}

unfoldable pub added : ℕ → ℕ → ℕ → ℕ
added mask p w = elim (eqb (odd w mask) 1) [ true ↦ bit_xor w p | false ↦ w ]

unfoldable pub pivot : ℕ → List ℕ → ℕ
pivot mask [] = 0
pivot mask (v ∷ vs) = elim (eqb (odd v mask) 1) [ true ↦ v | false ↦ pivot mask vs ]

unfoldable pub without : ℕ → List ℕ → List ℕ
without mask [] = []
without mask (v ∷ vs) = elim (eqb (odd v mask) 1) [ true ↦ map (added mask v) vs | false ↦ v ∷ without mask vs ]
