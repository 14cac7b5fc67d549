-- The first clear member of a group of a leaf.
--     lane_clear p table m x vs n j        the member of lane j, from number n on, is clear
--     FirstClear p table m x vs n r        r is the first lane of 64, from number n on, whose member is clear; None where none of the 64 is
use Rattle.std.specs.Prelude.{List, ℕ, ◌+◌, Bool, Option, MatchOption}
use Rattle.words_bounded.specs.Bounded.{NoneBelow, Least}
use Rattle.search_members.specs.Members.{pick}
use Rattle.search_rows.specs.declared.Pattern.{Pattern}
use Rattle.search_rows.specs.Rows.{clear}

abbrev pub lane_clear : Pattern → List ℕ → ℕ → ℕ → List ℕ → ℕ → ℕ → Bool
lane_clear p table m x vs n j = clear p table m (pick x vs (n + j))

abbrev pub FirstClear : Pattern → List ℕ → ℕ → ℕ → List ℕ → ℕ → Option ℕ → Type 0
FirstClear p table m x vs n r = MatchOption r (NoneBelow (lane_clear p table m x vs n) 64) (Least (lane_clear p table m x vs n) 64)
