-- How many lines with a key stand in a row (`run_of`).
--     run-here, run_none     of the last key, and of another
--     run-most               never more than of the last key
-- Assumes nothing.
use mathlib.Core.Bool.{Bool, true, false}
use mathlib.Core.Path.{◌≡◌, refl}
use Prim.Native.Nat.{◌≤◌}
use native.Mathlib.Omega.{arith}
use Rattle.text_keys.specs.Keys.{same}
use Rattle.text_keys.specs.declared.Key.{Key}
use Rattle.text_place.specs.Places.{run_of}
use Rattle.text_place.specs.declared.Place.{Place}

module _ (p : Place) (k : Key) where
  pub run-here : same p.last k ≡ true → run_of p k ≡ p.run
  unfolding run_of
  run-here e = rw (e, run_of)

  pub run_none : same p.last k ≡ false → run_of p k ≡ 0
  unfolding run_of
  run_none e = rw (e, run_of)

  pub run-most : run_of p k ≤ p.run
  run-most = go (same p.last k) refl
    where
      go : (b : Bool) → same p.last k ≡ b → run_of p k ≤ p.run
      go true e = rw (run-here e) (omega arith)
      go false e = rw (run_none e) (omega arith)
