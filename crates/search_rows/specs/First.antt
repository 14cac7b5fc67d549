-- The first row in which a state shows the pattern.
--     first_shown p table m x        the first row below m in which x shows the pattern, or None where there is none
use Rattle.std.specs.Prelude.{List, ℕ, Option}
use Rattle.words_bounded.specs.Bounded.{least_below}
use Rattle.search_rows.specs.Rows.{shown}
use Rattle.search_rows.specs.declared.Pattern.{Pattern}

unfoldable pub first_shown : Pattern → List ℕ → ℕ → ℕ → Option ℕ
first_shown p table m x = least_below (λ t. shown p table t x) m
