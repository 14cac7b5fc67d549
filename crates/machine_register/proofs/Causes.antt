-- Cause 1, as the code tests it, one test after the other.
--     register_range, register_beyond, register_last     by the range of cells, the taps beyond them, the last cell
--     cells_within, taps_below     what is not refused by it: 1 to 64 cells, taps below 2 to the cells
-- Assumes nothing.
use mathlib.Core.Path.{◌≡◌}
use mathlib.Core.Bool.{true, false, not, ◌||◌}
use Prim.Native.Nat.{ℕ, ◌-◌, ◌^◌, ◌≤◌, ◌<◌}
use lib.Dec.{eqb}
use borrow.Author.Tests.{not-false}
use Rattle.words_bounded.specs.Bounded.{within}
use Rattle.words_bounded.proofs.Tests.{neither, within_yes}
use Rattle.words_gf2.specs.Words.{digit, beyond}
use Rattle.words_gf2.proofs.Digits.{no_beyond}
use Rattle.machine_register.specs.Register.{bad_register}

module _ (cells taps : ℕ) where
  pub register_range : within 1 64 cells ≡ false → bad_register cells taps ≡ true
  unfolding bad_register
  register_range w = rw w

  pub register_beyond : within 1 64 cells ≡ true → beyond cells taps ≡ true → bad_register cells taps ≡ true
  unfolding bad_register
  register_beyond w b = rw (w, b)

  pub register_last : within 1 64 cells ≡ true → beyond cells taps ≡ false → bad_register cells taps ≡ eqb (digit taps (cells - 1)) 0
  unfolding bad_register
  register_last w b = rw (w, b)

  pub cells_within : bad_register cells taps ≡ false → (1 ≤ cells) × (cells ≤ 64)
  unfolding bad_register
  cells_within b = within_yes 1 64 cells (not-false (within 1 64 cells) (neither (not (within 1 64 cells)) _ b).0)

  pub taps_below : bad_register cells taps ≡ false → taps < 2 ^ cells
  unfolding bad_register
  taps_below b =
      let rest = (neither (not (within 1 64 cells)) (beyond cells taps || eqb (digit taps (cells - 1)) 0) b).1 in
      no_beyond cells taps (neither (beyond cells taps) (eqb (digit taps (cells - 1)) 0) rest).0
