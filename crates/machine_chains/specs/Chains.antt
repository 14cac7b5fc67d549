-- The chains (document 01, "Register and chains"; cause 2 of its refusal sheet). Chains are numbered from 1; chain j has weight 2 ^ (j - 1) in a slice.
--     most_chains              the most chains
--     slice masks s           the slice of the state s: all chains' bits
--     bad_count chains         the number of chains alone is refused by cause 2
--     bad_mask cells m         a mask 0 or with a bit at or above cells
--     bad_chains cells masks   cause 2
use Rattle.std.specs.Prelude.{Bool, not, ◌||◌, List, [], ◌∷◌, ℕ, ◌+◌, ◌*◌, eqb, length}
use Rattle.words_bounded.specs.Bounded.{within, any}
use Rattle.words_gf2.specs.Words.{odd, beyond}

abbrev pub most_chains : ℕ
most_chains = 64

-- The bit of a chain is 1 exactly when an odd number of the cells in its mask hold 1.
unfoldable pub slice : List ℕ → ℕ → ℕ
slice [] s = 0
slice (m ∷ ms) s = odd s m + 2 * slice ms s

unfoldable pub bad_count : ℕ → Bool
bad_count chains = not (within 1 most_chains chains)

unfoldable pub bad_mask : ℕ → ℕ → Bool
bad_mask cells m = eqb m 0 || beyond cells m

unfoldable pub bad_chains : ℕ → List ℕ → Bool
bad_chains cells masks = bad_count (length masks) || any (bad_mask cells) masks
