-- Cause 3, as the code tests it, one test after the other.
--     cubes_depth, cubes_slices, cubes_rest     a set that comes as cubes
--     list_slices, list_seeds                   a seed list
--     limit_within, window_within, set-within, list_within     what is not refused by it: a limit of 1 to 256, 1 to limit slices, 1 to 2,048 slices, at most 2,048 seeds
--     cubes_lengths                             what is not refused as cubes is not refused as a set
-- Assumes nothing.
use mathlib.Core.Path.{◌≡◌}
use mathlib.Core.Bool.{true, false, not, ◌||◌}
use Prim.Native.Nat.{ℕ, ◌%◌, ◌≤◌}
use lib.Dec.{ltb, eqb}
use borrow.Author.Tests.{ltb-false, not-false}
use Rattle.words_bounded.specs.Bounded.{within}
use Rattle.words_bounded.proofs.Tests.{neither, within_yes}
use Rattle.refusal_lengths.specs.Lengths.{most_limit, bad_limit, bad_window, bad_set, bad_cubes, bad_list}

module _ (depth n : ℕ) where
  pub cubes_depth : within 1 256 depth ≡ false → bad_cubes depth n ≡ true
  unfolding bad_cubes
  cubes_depth w = rw w

  pub cubes_slices : within 1 256 depth ≡ true → bad_set n ≡ true → bad_cubes depth n ≡ true
  unfolding bad_cubes
  cubes_slices w b = rw (w, b)

  pub cubes_lengths : bad_cubes depth n ≡ false → bad_set n ≡ false
  unfolding bad_cubes
  cubes_lengths b = (neither (bad_set n) (not (eqb (n % depth) 0)) (neither (not (within 1 256 depth)) (bad_set n || not (eqb (n % depth) 0)) b).1).0

  pub cubes_rest : within 1 256 depth ≡ true → bad_set n ≡ false → bad_cubes depth n ≡ not (eqb (n % depth) 0)
  unfolding bad_cubes
  cubes_rest w b = rw (w, b)

pub limit_within : (limit : ℕ) → bad_limit limit ≡ false → (1 ≤ limit) × (limit ≤ most_limit)
unfolding bad_limit
limit_within limit b = within_yes 1 most_limit limit (not-false (within 1 most_limit limit) b)

pub window_within : (limit n : ℕ) → bad_window limit n ≡ false → (1 ≤ n) × (n ≤ limit)
unfolding bad_window
window_within limit n b = within_yes 1 limit n (not-false (within 1 limit n) b)

pub set-within : (n : ℕ) → bad_set n ≡ false → (1 ≤ n) × (n ≤ 2048)
unfolding bad_set
set-within n b = within_yes 1 2048 n (not-false (within 1 2048 n) b)

module _ (n seeds : ℕ) where
  pub list_slices : bad_set n ≡ true → bad_list n seeds ≡ true
  unfolding bad_list
  list_slices b = rw b

  pub list_seeds : bad_set n ≡ false → bad_list n seeds ≡ ltb 2048 seeds
  unfolding bad_list
  list_seeds b = rw b

  pub list_within : bad_list n seeds ≡ false → (n ≤ 2048) × (seeds ≤ 2048)
  unfolding bad_list
  list_within b = let p = neither (bad_set n) (ltb 2048 seeds) b in ((set-within n p.0).1, ltb-false 2048 seeds p.1)
