-- What a row of a table forces in a space, where no member may show the pattern in the row. Where one column alone is open and all members read the pattern's bit in every other, it has to read the other bit, which is a linear equation. Where no column is open and all members read the pattern's bits, no member is left.
--     narrowed h vs y, left h vs     the space y with the vectors vs, and its vectors, where the row may not be shown; h says how the members show it; None where no member is left
--     forced pattern table t vs y, forced_vectors ..     the same for row t of the table
--     forced_if pattern table t l y, forced_buffer ..     the same of a space that may be absent, its vectors the first entries of the buffer l, and the buffer then: an absent space stays so, and the buffer as it was
use Rattle.std.specs.Prelude.{List, ◌++◌, ℕ, drop, length, take, None, Option, Some}
use Rattle.search_space.specs.declared.Space.{Space}
use Rattle.search_restrict.specs.Restricted.{restricted}
use Rattle.search_pivot.specs.Pivot.{without}
use Rattle.search_rows.specs.declared.Pattern.{Pattern}
use Rattle.search_rows.specs.Rows.{row}
use Rattle.search_showing.specs.Showing.{across}
use Rattle.search_showing.specs.declared.Shows.{Shows}
use Rattle.search_showing.specs.declared.Shows.TheVariants.{Always, Unless, Neither}

abbrev pub narrowed : Shows → List ℕ → Space → Option Space
narrowed Always vs y = None
narrowed (Unless m b) vs y = restricted m b vs y
narrowed Neither vs y = Some y

abbrev pub left : Shows → List ℕ → List ℕ
left Always vs = vs
left (Unless m b) vs = without m vs
left Neither vs = vs

unfoldable pub forced : Pattern → List ℕ → ℕ → List ℕ → Space → Option Space
forced p table t vs y = narrowed (across (row p.columns table t) p.bits y.lowest vs) vs y

unfoldable pub forced_vectors : Pattern → List ℕ → ℕ → List ℕ → Space → List ℕ
forced_vectors p table t vs y = left (across (row p.columns table t) p.bits y.lowest vs) vs

abbrev pub forced_if : Pattern → List ℕ → ℕ → List ℕ → Option Space → Option Space
forced_if p table t l None = None
forced_if p table t l (Some y) = forced p table t (take y.free l) y

abbrev pub forced_buffer : Pattern → List ℕ → ℕ → List ℕ → Option Space → List ℕ
forced_buffer p table t l None = l
forced_buffer p table t l (Some y) = forced_vectors p table t (take y.free l) y ++ drop (length (forced_vectors p table t (take y.free l) y)) l
