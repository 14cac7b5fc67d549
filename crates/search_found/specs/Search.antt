-- The lowest clear state of a space.
--     lowest_clear p table m x vs     the lowest member of the space of x and the vectors vs that is clear in the rows below m, or None; states are words of 64 bits
use Rattle.std.specs.Prelude.{◌&&◌, List, ℕ, ◌^◌, Option}
use Rattle.words_bounded.specs.Bounded.{least_below}
use Rattle.search_space.specs.Space.{among}
use Rattle.search_rows.specs.Rows.{clear}
use Rattle.search_rows.specs.declared.Pattern.{Pattern}

unfoldable pub lowest_clear : Pattern → List ℕ → ℕ → ℕ → List ℕ → Option ℕ
lowest_clear p table m x vs = least_below (λ s. among x vs s && clear p table m s) (2 ^ 64)
