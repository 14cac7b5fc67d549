-- The run of a state that covers a window, by the register rule.
--     covers-quiet     at least as many slices as the window has come before its stop
--     covers-stop      exactly as many where the window closes
--     covers_agree     the first slices agree with the window
-- Assumes nothing.
use mathlib.Core.Path.{◌≡◌, ap}
use mathlib.Core.Bool.{Bool, true, false, not, ◌&&◌}
use mathlib.Core.List.{List, [], ◌∷◌}
use Prim.Native.Nat.{ℕ, zero, suc, ◌≤◌}
use native.Mathlib.Nat.{not-suc-le-zero, le_of_suc-le-suc}
use native.Mathlib.Omega.{arith}
use lib.ListN.{length}
use borrow.Author.Tests.{not-true}
use Rattle.words_bounded.proofs.Tests.{both}
use Rattle.machine_settings.specs.Machine.{Machine}
use Rattle.machine_slices.specs.declared.TestSlice.{TestSlice}
use Rattle.machine_slices.specs.Slices.{agrees, shows}
use Rattle.theory_covering.specs.Covering.{fits, quiet, covers}
use Rattle.theory_covering.proofs.Tail.{covers-tail}
use Rattle.expander_meaning.specs.Run.{slices_of}
use Rattle.expander_meaning.specs.Until.{until_stop}
use Rattle.expander_meaning.proofs.Agreeing.{Agree, agree_none, agree_more}
use Rattle.expander_meaning.proofs.Until.{until_more, until_here}

module _ (M : Machine) (stop : TestSlice) where
  closing_shows : (s : ℕ) → covers M stop true [] s ≡ true → shows stop (M.slice s) ≡ true
  unfolding covers fits quiet
  closing_shows s c = (both (shows stop (M.slice s)) true c).0

  module _ (closing : Bool) where
    first_quiet : (t : TestSlice) (w : List TestSlice) (s : ℕ) → covers M stop closing (t ∷ w) s ≡ true → shows stop (M.slice s) ≡ false
    unfolding covers quiet
    first_quiet t w s c =
        not-true _ (both (not (shows stop (M.slice s))) _ (both (fits M stop closing (t ∷ w) s) _ c).1).0

    first_agrees : (t : TestSlice) (w : List TestSlice) (s : ℕ) → covers M stop closing (t ∷ w) s ≡ true → agrees t (M.slice s) ≡ true
    unfolding covers fits
    first_agrees t w s c = (both (agrees t (M.slice s)) _ (both (agrees t (M.slice s) && fits M stop closing w (M.step s)) _ c).0).0

    pub covers-quiet : (w : List TestSlice) (s d : ℕ) → length w ≤ d → covers M stop closing w s ≡ true → length w ≤ length (until_stop M stop d s)
    covers-quiet [] s d h c = omega arith
    covers-quiet (t ∷ w) s zero h c = absurd (not-suc-le-zero h)
    covers-quiet (t ∷ w) s (suc d) h c = rw (until_more M stop d s (first_quiet t w s c)) (let q = covers-quiet w (M.step s) d (le_of_suc-le-suc h) (covers-tail M stop closing t w s c) in omega arith)

    pub covers_agree : (w : List TestSlice) (s : ℕ) → covers M stop closing w s ≡ true → Agree w (slices_of M (length w) s)
    unfolding slices_of
    covers_agree [] s c = agree_none
    covers_agree (t ∷ w) s c = agree_more (first_agrees t w s c) (covers_agree w (M.step s) (covers-tail M stop closing t w s c))

  pub covers-stop : (w : List TestSlice) (s d : ℕ) → covers M stop true w s ≡ true → length w ≤ d → length (until_stop M stop d s) ≡ length w
  covers-stop [] s d c h = ap length (until_here M stop d s (closing_shows s c))
  covers-stop (t ∷ w) s zero c h = absurd (not-suc-le-zero h)
  covers-stop (t ∷ w) s (suc d) c h =
      rw (until_more M stop d s (first_quiet true t w s c)) (ap suc (covers-stop w (M.step s) d (covers-tail M stop true t w s c) (le_of_suc-le-suc h)))
