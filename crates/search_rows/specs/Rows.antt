-- Rows of a table of masks. A row of the table has one mask for each position of a pattern; a state shows the pattern in a row where each mask of the row reads the pattern's bit at its position. Row t of the table of a stop slice reads in the seed what its slice t has (document 01, "Covering and cutting").
--     row columns table t       the masks of row t
--     reads masks bits s        each mask reads its bit in the state s; bit j of `bits` is that of mask j
--     shown pattern table t s   s shows the pattern in row t
--     clear pattern table m s   s shows the pattern in none of the rows 0 .. m - 1
use Rattle.std.specs.Prelude.{Bool, true, not, ◌&&◌, List, [], ◌∷◌, ℕ, zero, suc, ◌*◌, ◌/◌, ◌%◌, eqb, take, drop}
use Rattle.words_gf2.specs.Words.{odd}
use Rattle.search_rows.specs.declared.Pattern.{Pattern}

abbrev pub row : ℕ → List ℕ → ℕ → List ℕ
row columns table t = take columns (drop (t * columns) table)

unfoldable pub reads : List ℕ → ℕ → ℕ → Bool
reads [] bits s = true
reads (m ∷ ms) bits s = eqb (odd s m) (bits % 2) && reads ms (bits / 2) s

unfoldable pub shown : Pattern → List ℕ → ℕ → ℕ → Bool
shown p table t s = reads (row p.columns table t) p.bits s

unfoldable pub clear : Pattern → List ℕ → ℕ → ℕ → Bool
clear p table zero s = true
clear p table (suc m) s = clear p table m s && not (shown p table m s)
