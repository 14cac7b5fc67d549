-- Laws of covering.
--     covers-tail                   the rest of a covered window is covered by the next state
--     covered_found, found_covered  a window has a seed exactly where some state below the bound covers it
-- Assumes nothing.
use Rattle.std.specs.Prelude.{None, Option, Some}
use mathlib.Core.Path.{◌≡◌, refl}
use mathlib.Core.Bool.{Bool, true, false, not, ◌&&◌}
use mathlib.Core.List.{List, ◌∷◌}
use Prim.Native.Nat.{ℕ, ◌<◌}
use lib.ListN.{length}
use Rattle.words_bounded.specs.Bounded.{least_below}
use Rattle.words_bounded.proofs.Tests.{clash, both, and_yes}
use Rattle.words_bounded.proofs.Search.{least_is, LeastIs}
use Rattle.machine_settings.specs.Machine.{Machine}
use Rattle.machine_slices.specs.declared.TestSlice.{TestSlice}
use Rattle.machine_slices.specs.Slices.{agrees, shows}
use Rattle.theory_covering.specs.Covering.{fits, quiet, covers, seed_of}
use Rattle.theory_covering.specs.Windows.{found}

module _ (M : Machine) (stop : TestSlice) (closing : Bool) where
  pub covers-tail : (t : TestSlice) (w : List TestSlice) (s : ℕ) → covers M stop closing (t ∷ w) s ≡ true → covers M stop closing w (M.step s) ≡ true
  unfolding covers fits quiet
  covers-tail t w s h =
      let a = both (agrees t (M.slice s) && fits M stop closing w (M.step s)) (not (shows stop (M.slice s)) && quiet M stop (length w) (M.step s)) h in
      and_yes (fits M stop closing w (M.step s)) _ (both (agrees t (M.slice s)) _ a.0).1 (both (not (shows stop (M.slice s))) _ a.1).1

  pub covered_found : (w : List TestSlice) (s : ℕ) → s < M.states → covers M stop closing w s ≡ true → found (seed_of M stop closing w) ≡ true
  unfolding seed_of
  covered_found w s h t = go (least_below (covers M stop closing w) M.states) (least_is (covers M stop closing w) M.states)
    where
      go : (o : Option ℕ) → LeastIs (covers M stop closing w) M.states o → found o ≡ true
      go None all = absurd (clash (covers M stop closing w s) t (all s h))
      go (Some g) l = refl

  pub found_covered : (w : List TestSlice) → found (seed_of M stop closing w) ≡ true → (s : ℕ) × (seed_of M stop closing w ≡ Some s) × (s < M.states) × (covers M stop closing w s ≡ true)
  unfolding seed_of
  found_covered w t = go (least_below (covers M stop closing w) M.states) (least_is (covers M stop closing w) M.states) t
    where
      go : (o : Option ℕ) → LeastIs (covers M stop closing w) M.states o → found o ≡ true → (s : ℕ) × (o ≡ Some s) × (s < M.states) × (covers M stop closing w s ≡ true)
      go None all e = absurd (clash false e refl)
      go (Some s) l e = (s, refl, l.below, l.passes)
