-- A space under an equation: the members whose parity under a mask is the wanted one.
--     shifted mask b x p   the lowest member under an equation: x where it reads b under the mask, else x with the pivot p added
--     restricted .. y      what is left of a space under the equation that the mask reads b; None where no member reads it
--     restricted_if .. l y, restricted_buffer mask l y     the same of a space that may be absent, its vectors the first entries of the buffer l, and the buffer then: an absent space stays so, and the buffer as it was
use Rattle.std.specs.Prelude.{true, false, List, ◌++◌, ℕ, eqb, drop, length, take, None, Option, Some}
use Rattle.std.specs.Int.Bits.{bit_xor}
use Rattle.words_gf2.specs.Words.{odd}
use Rattle.search_space.specs.declared.Space.{Space}
use Rattle.search_pivot.specs.Pivot.{pivot, without}

unfoldable pub shifted : ℕ → ℕ → ℕ → ℕ → ℕ
shifted mask b x p = elim (eqb (odd x mask) b) [ true ↦ x | false ↦ bit_xor x p ]

-- The vectors stand in a list beside it.
unfoldable pub restricted : ℕ → ℕ → List ℕ → Space → Option Space
restricted mask b vs y = elim (eqb (odd (shifted mask b y.lowest (pivot mask vs)) mask) b) [
  | true ↦ Some (record { lowest = shifted mask b y.lowest (pivot mask vs); free = length (without mask vs) })
  | false ↦ None
]

abbrev pub restricted_if : ℕ → ℕ → List ℕ → Option Space → Option Space
restricted_if mask b l None = None
restricted_if mask b l (Some y) = restricted mask b (take y.free l) y

abbrev pub restricted_buffer : ℕ → List ℕ → Option Space → List ℕ
restricted_buffer mask l None = l
restricted_buffer mask l (Some y) = without mask (take y.free l) ++ drop (length (without mask (take y.free l))) l
