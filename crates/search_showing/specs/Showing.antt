-- How the members of a space show a row. A column is open where members read it differently. Where one column alone is open and all members read the pattern's bit in every other, it decides. Where no column is open and all members read the pattern's bits, all show the row.
--     column m b x vs                how the space of x and vs shows a row of the one mask m with the bit b
--     together p q                   two parts of a row in one
--     across masks bits x vs         how the space shows a row; bit j of `bits` is that of mask j
-- Of the variants of `Shows`: all members show the row (Always); they do unless the mask m reads b (Unless m b); neither of the two is known (Neither).
use Rattle.std.specs.Prelude.{true, false, List, [], ◌∷◌, ℕ, ◌-◌, ◌/◌, ◌%◌, eqb, ltb}
use Rattle.words_gf2.specs.Words.{odd}
use Rattle.search_pivot.specs.Pivot.{pivot}
use Rattle.search_showing.specs.declared.Shows.{Shows}
use Rattle.search_showing.specs.declared.Shows.TheVariants.{Always, Unless, Neither}

unfoldable pub column : ℕ → ℕ → ℕ → List ℕ → Shows
column m b x vs = elim (ltb 0 (pivot m vs)) [ true ↦ Unless m (1 - b) | false ↦ elim (eqb (odd x m) b) [ true ↦ Always | false ↦ Neither ] ]

abbrev pub together : Shows → Shows → Shows
together Always q = q
together (Unless m b) Always = Unless m b
together (Unless m b) (Unless n c) = Neither
together (Unless m b) Neither = Neither
together Neither q = Neither

unfoldable pub across : List ℕ → ℕ → ℕ → List ℕ → Shows
across [] bits x vs = Always
across (m ∷ ms) bits x vs = together (column m (bits % 2) x vs) (across ms (bits / 2) x vs)
