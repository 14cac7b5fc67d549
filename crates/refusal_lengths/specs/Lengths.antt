-- Lengths (document 01, cause 3 of its refusal sheet; document 02, R-3).
--     most_slices            the most slices of a set, and the most seeds of a list
--     most_depth             the greatest depth of a cube
--     most_limit             the greatest limit of a window
--     bad_limit limit        the limit of a window
--     bad_window limit n     a window of n slices
--     bad_set n              a set of n slices
--     bad_cubes depth n      a set of n slices that comes as cubes of depth slices
--     bad_list n seeds       a list of so many seeds for n slices
use Rattle.std.specs.Prelude.{Bool, not, ◌||◌, ℕ, ◌%◌, ltb, eqb}
use Rattle.words_bounded.specs.Bounded.{within}

abbrev pub most_slices : ℕ
most_slices = 2048

abbrev pub most_depth : ℕ
most_depth = 256

abbrev pub most_limit : ℕ
most_limit = 256

-- The limit of a window not 1 to 256.
unfoldable pub bad_limit : ℕ → Bool
bad_limit limit = not (within 1 most_limit limit)

-- Window length not 1 to the limit.
unfoldable pub bad_window : ℕ → ℕ → Bool
bad_window limit n = not (within 1 limit n)

-- Slices none or above 2,048.
unfoldable pub bad_set : ℕ → Bool
bad_set n = not (within 1 most_slices n)

-- Depth not 1 to 256; slices none, above 2,048 or no multiple of depth.
unfoldable pub bad_cubes : ℕ → ℕ → Bool
bad_cubes depth n = not (within 1 most_depth depth) || (bad_set n || not (eqb (n % depth) 0))

-- Slices none or above 2,048; more than 2,048 seeds.
unfoldable pub bad_list : ℕ → ℕ → Bool
bad_list n seeds = bad_set n || ltb most_slices seeds
