-- A larger limit keeps every window, and the states that cover it (document 02, R-3).
--     placed_larger      a placed window is placed
--     covered_larger     the state that covers a window covers it
--     window_larger      a window that some state covers is one
--     steady_larger      a stop that is steady between two edges with the larger limit is so with the smaller
-- Assumes nothing.
use mathlib.Core.Path.{◌≡◌, sym, ◌∙◌}
use mathlib.Core.Bool.{true}
use mathlib.Core.List.{List}
use Prim.Native.Nat.{ℕ}
use native.Mathlib.Omega.{arith}
use lib.ListN.{length}
use Rattle.machine_settings.specs.Machine.{Machine}
use Rattle.machine_slices.specs.declared.TestSlice.{TestSlice}
use Rattle.theory_covering.specs.Rules.{Rules, Raised}
use Rattle.theory_covering.specs.Windows.{placed, closes, covers_part, CoveredBy, Window, Steady}
use Rattle.theory_covering.proofs.Places.{far_larger, placed-parts, parts-placed}

module _ (small large : Rules) (r : Raised small large) where
  placed_larger : (n i k : ℕ) → placed small n i k ≡ true → placed large n i k ≡ true
  placed_larger n i k t =
      let p = placed-parts small n i k t in
      parts-placed large n i k p.0 (let q = p.1 in omega (arith, far_larger small large r n i))

  pub steady_larger : (n : ℕ) → Steady large n → Steady small n
  steady_larger n steady i j le lt = r.live i ∙ steady i j le (omega (arith, far_larger small large r n i)) ∙ sym (r.live j)

  module _ (M : Machine) (set : List TestSlice) where
    -- covering does not ask for the limit
    covers-same : (i k s : ℕ) → covers_part M small set i k s ≡ covers_part M large set i k s
    unfolding covers_part closes
    covers-same i k s = rw (r.live i, r.open_end)

    pub covered_larger : (i k s : ℕ) → CoveredBy M small set i k s → CoveredBy M large set i k s
    covered_larger i k s c = record { place = placed_larger (length set) i k c.place; below = c.below; covered = sym (covers-same i k s) ∙ c.covered }

    pub window_larger : (i k : ℕ) → Window M small set i k → Window M large set i k
    window_larger i k w = (w.0, covered_larger i k w.0 w.1)
