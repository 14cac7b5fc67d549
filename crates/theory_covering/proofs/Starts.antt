-- A row of windows that ends before the set does is one of windows that all close with their stop.
--     covering_forward  windows go forward: a row does not end before its start
--     starts-closed     the law
-- Assumes nothing.
use mathlib.Core.Path.{◌≡◌}
use mathlib.Core.Bool.{and-false}
use mathlib.Core.List.{List}
use Prim.Native.Nat.{ℕ, ◌≤◌, ◌<◌}
use native.Mathlib.Omega.{arith}
use lib.ListN.{length}
use borrow.Author.Tests.{ne_eqb}
use Rattle.machine_settings.specs.Machine.{Machine}
use Rattle.machine_slices.specs.declared.TestSlice.{TestSlice}
use Rattle.theory_cutting.specs.Cutting.{Cutting, no_window, window, Covering, without_state, state}
use Rattle.theory_covering.specs.Rules.{Rules, closed_rules}
use Rattle.theory_covering.specs.Windows.{far, placed, closes, covers_part, CoveredBy, Window}
use Rattle.theory_covering.specs.Starts.{StartsClosed}
use Rattle.theory_covering.proofs.Places.{placed-parts}

module _ (M : Machine) (set : List TestSlice) where
  abbrev n : ℕ
  n = length set

  -- windows go forward, so each of a row ends at or before the row's end
  cutting_forward : (R : Rules) {a b : ℕ} {es : List ℕ} → Cutting (Window M R set) a es b → a ≤ b
  cutting_forward R no_window = omega arith
  cutting_forward R (window {a = a} {k = k} w c) = omega (arith, (placed-parts R n a k w.1.place).0, cutting_forward R c)

  pub covering_forward : (R : Rules) {a b : ℕ} {es ss : List ℕ} → Covering (CoveredBy M R set) a es ss b → a ≤ b
  covering_forward R without_state = omega arith
  covering_forward R (state {a = a} {k = k} w c) = omega (arith, (placed-parts R n a k w.place).0, covering_forward R c)

  module _ (R : Rules) where
    closes_before : (k : ℕ) → k < n → closes R n k ≡ closes (closed_rules R) n k
    unfolding closes
    closes_before k h = rw (ne_eqb k n (λ q. omega arith), and-false)

    covered_closed : (i k s : ℕ) → k < n → CoveredBy M R set i k s → CoveredBy M (closed_rules R) set i k s
    unfolding covers_part placed far
    covered_closed i k s h w = record { place = w.place; below = w.below; covered = rw (closes_before k h) at w.covered }

    closed_covered : (i k s : ℕ) → k < n → CoveredBy M (closed_rules R) set i k s → CoveredBy M R set i k s
    unfolding covers_part placed far
    closed_covered i k s h w = record { place = w.place; below = w.below; covered = rw (closes_before k h) w.covered }

    cut_closed : {a b : ℕ} {es : List ℕ} → b < n → Cutting (Window M R set) a es b → Cutting (Window M (closed_rules R) set) a es b
    cut_closed h no_window = no_window
    cut_closed h (window {a = a} {k = k} w c) = window (w.0, covered_closed a k w.0 (omega (arith, cutting_forward R c)) w.1) (cut_closed h c)

    closed_cut : {a b : ℕ} {es : List ℕ} → b < n → Cutting (Window M (closed_rules R) set) a es b → Cutting (Window M R set) a es b
    closed_cut h no_window = no_window
    closed_cut h (window {a = a} {k = k} w c) = window (w.0, closed_covered a k w.0 (omega (arith, cutting_forward (closed_rules R) c)) w.1) (closed_cut h c)

    states_closed : {a b : ℕ} {es ss : List ℕ} → b < n → Covering (CoveredBy M R set) a es ss b → Covering (CoveredBy M (closed_rules R) set) a es ss b
    states_closed h without_state = without_state
    states_closed h (state {a = a} {k = k} {s = s} w c) = state (covered_closed a k s (omega (arith, covering_forward R c)) w) (states_closed h c)

    closed_states : {a b : ℕ} {es ss : List ℕ} → b < n → Covering (CoveredBy M (closed_rules R) set) a es ss b → Covering (CoveredBy M R set) a es ss b
    closed_states h without_state = without_state
    closed_states h (state {a = a} {k = k} {s = s} w c) = state (closed_covered a k s (omega (arith, covering_forward (closed_rules R) c)) w) (closed_states h c)

    pub starts-closed : StartsClosed M R set
    starts-closed = record { cut = λ h. (cut_closed h, closed_cut h); covered = λ h. (states_closed h, closed_states h) }
