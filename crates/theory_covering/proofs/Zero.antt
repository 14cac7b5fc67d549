-- The state 0 is a lawful state, and its slices are all alike (document 01, "Register and chains"; document 02, R-5).
--     zero_covers_nothing     so it covers no window that closes with its stop: none given singly, and of a set's windows at most the last
-- Assumes nothing.
use mathlib.Core.Path.{◌≡◌}
use mathlib.Core.Bool.{true, not}
use mathlib.Core.List.{List, [], ◌∷◌}
use Prim.Native.Nat.{ℕ}
use Rattle.words_bounded.proofs.Tests.{clash, both}
use borrow.Author.Tests.{not-true}
use Rattle.machine_settings.specs.declared.Settings.{Settings}
use Rattle.machine_settings.specs.Machine.{Machine, machine}
use Rattle.machine_register.proofs.Steps.{step_zero}
use Rattle.machine_slices.specs.declared.TestSlice.{TestSlice}
use Rattle.machine_slices.specs.Slices.{agrees, shows}
use Rattle.theory_covering.specs.Covering.{fits, quiet, covers}

module _ (g : Settings) (masks : List ℕ) (stop : TestSlice) where
  abbrev M : Machine
  M = machine g masks

  stop_at_once : (w : List TestSlice) → fits M stop true w 0 ≡ true → shows stop (M.slice 0) ≡ true
  unfolding fits
  stop_at_once [] h = h
  stop_at_once (t ∷ w) h = stop_at_once w (rw (step_zero g.cells g.taps) at (both (agrees t (M.slice 0)) _ h).1)

  pub zero_covers_nothing : (t : TestSlice) (w : List TestSlice) → covers M stop true (t ∷ w) 0 ≡ true → ⊥
  unfolding covers quiet
  zero_covers_nothing t w h =
      let a = both (fits M stop true (t ∷ w) 0) _ h in
      clash (shows stop (M.slice 0)) (stop_at_once (t ∷ w) a.0) (not-true _ (both (not (shows stop (M.slice 0))) _ a.1).0)
