-- What the words of a column, and of a row, of a leaf tell.
--     Reads x vs m b low high   where lane i of the low word and lane g of the high word differ, that member reads b under the mask m
--     RowFilled p table t x vs words a     where the words from a on all differ, that member shows row t
use Rattle.std.specs.Prelude.{◌≡◌, true, List, ℕ, ◌+◌, ◌*◌, ◌%◌, ◌<◌}
use Rattle.words_gf2.specs.Words.{digit, odd}
use Rattle.search_members.specs.Members.{pick}
use Rattle.search_rows.specs.declared.Pattern.{Pattern}
use Rattle.search_rows.specs.Rows.{shown}
use Rattle.search_rows.specs.Leaf.{AllMatched}

abbrev pub Reads : ℕ → List ℕ → ℕ → ℕ → ℕ → ℕ → Type 0
Reads x vs m b low high = (g i : ℕ) → g < 64 → i < 64 → (digit low i + digit high g) % 2 ≡ 1 → odd (pick x vs (g * 64 + i)) m ≡ b

abbrev pub RowFilled : Pattern → List ℕ → ℕ → ℕ → List ℕ → List ℕ → ℕ → Type 0
RowFilled p table t x vs words a = (g i : ℕ) → g < 64 → i < 64 → AllMatched words a p.columns g i → shown p table t (pick x vs (g * 64 + i)) ≡ true
