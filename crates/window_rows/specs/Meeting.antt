-- The slices that a state meets, read by the rows of a table.
--     meets masks p b s       at each position that p specifies the mask reads the bit of b in the state s
--     all_meet c table t w s   so it is of the slices of w, from row t of the table on
use Rattle.std.specs.Prelude.{Bool, true, false, ◌&&◌, List, [], ◌∷◌, ℕ, suc, ◌/◌, ◌%◌, eqb}
use Rattle.words_gf2.specs.Words.{odd}
use Rattle.search_rows.specs.Rows.{row}
use Rattle.machine_slices.specs.declared.TestSlice.{TestSlice}

unfoldable pub meets : List ℕ → ℕ → ℕ → ℕ → Bool
meets [] p b s = true
meets (m ∷ ms) p b s = elim (eqb (p % 2) 1) [ true ↦ eqb (odd s m) (b % 2) && meets ms (p / 2) (b / 2) s | false ↦ meets ms (p / 2) (b / 2) s ]

unfoldable pub all_meet : ℕ → List ℕ → ℕ → List TestSlice → ℕ → Bool
all_meet c table t [] s = true
all_meet c table t (x ∷ w) s = meets (row c table t) x.specified x.bits s && all_meet c table (suc t) w s
