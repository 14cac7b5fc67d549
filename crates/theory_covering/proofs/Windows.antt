-- The windows of a set are as the theorem about cuttings asks, for every setting whose stop is steady between edges.
--     ok_window, window_ok     the test says that some state covers the window
--     tails                    the rest of a covered part is covered
--     set-bounds               the windows go forward and stay within the set
--     set_windows              the windows go forward, stay within the set, and are kept by suffixes
--     rules_steady             the rules of a set have one stop
-- Assumes nothing.
use mathlib.Core.Path.{◌≡◌, refl}
use mathlib.Core.Bool.{Bool, true}
use mathlib.Core.List.{List}
use Prim.Native.Nat.{ℕ, suc, ◌≤◌, ◌<◌}
use native.Mathlib.Decide.{le_ind}
use native.Mathlib.Omega.{arith}
use lib.ListN.{length, get_or}
use Rattle.words_bounded.proofs.Tests.{both, and_yes}
use Rattle.theory_cutting.specs.Meaning.{Bounds}
use Rattle.theory_cutting.specs.Meaning as cutting
use Rattle.theory_cutting.proofs.Parts.{suffix_under}
use Rattle.machine_settings.specs.declared.Settings.{Settings}
use Rattle.machine_settings.specs.Machine.{Machine}
use Rattle.machine_slices.specs.declared.TestSlice.{TestSlice}
use Rattle.theory_covering.specs.Covering.{covers, seed_of}
use Rattle.theory_covering.specs.Rules.{Rules, rules}
use Rattle.theory_covering.specs.Windows.{part, placed, closes, covers_part, CoveredBy, Window, seed_at, found, ok, Steady}
use Rattle.theory_covering.proofs.Tail.{covers-tail, covered_found, found_covered}
use Rattle.theory_covering.proofs.Places.{far_le, placed-parts, suffix_placed, part_cons}

module _ (M : Machine) (R : Rules) (set : List TestSlice) where
  pub ok_window : (i k : ℕ) → ok M R set i k ≡ true → Window M R set i k
  unfolding ok seed_at covers_part
  ok_window i k t =
      let a = both (placed R (length set) i k) (found (seed_at M R set i k)) t in
      let f = found_covered M (R.live i) (closes R (length set) k) (part i k set) a.1 in
      (f.0, record { place = a.0; below = f.2; covered = f.3 })

  pub window_ok : (i k s : ℕ) → CoveredBy M R set i k s → ok M R set i k ≡ true
  unfolding ok seed_at covers_part
  window_ok i k s c =
      and_yes (placed R (length set) i k) _ c.place (covered_found M (R.live i) (closes R (length set) k) (part i k set) s c.below c.covered)

  pub set-bounds : Bounds (ok M R set) (length set)
  set-bounds = record {
    forward = λ i k t. (placed-parts R (length set) i k (ok_window i k t).1.place).0;
    inside = λ i k t. (let p = (placed-parts R (length set) i k (ok_window i k t).1.place).1 in omega (arith, (far_le R (length set) i).0));
  }

module _ (M : Machine) (stays : (s : ℕ) → s < M.states → M.step s < M.states) (set : List TestSlice) where
  step_one : (stop : TestSlice) (closing : Bool) (m k s : ℕ) → m < k → k ≤ length set
      → covers M stop closing (part m k set) s ≡ true → covers M stop closing (part (suc m) k set) (M.step s) ≡ true
  step_one stop closing m k s g n t =
      let d : TestSlice = record { specified = 0; bits = 0 } in
      covers-tail M stop closing (get_or set m d) (part (suc m) k set) s (rw (part_cons set m k d g n) at t)

  pub tails : (stop : TestSlice) (closing : Bool) (i j k : ℕ) → i ≤ j → j < k → k ≤ length set
      → found (seed_of M stop closing (part i k set)) ≡ true → found (seed_of M stop closing (part j k set)) ≡ true
  tails stop closing i j k le lt n t =
      le_ind (λ (m : ℕ). m < k → found (seed_of M stop closing (part m k set)) ≡ true) (λ h. t)
      (λ m h f g.
      let r = found_covered M stop closing (part m k set) (f (omega arith)) in
      covered_found M stop closing (part (suc m) k set) (M.step r.0) (stays r.0 r.2) (step_one stop closing m k r.0 (omega arith) n r.3))
      j le lt

  pub set_windows : (R : Rules) → Steady R (length set) → cutting.Windows (ok M R set) (length set)
  unfolding ok seed_at
  set_windows R steady = record {
    bounds = set-bounds M R set;
    suffix = suffix_under (placed R (length set)) (λ i k. found (seed_at M R set i k)) (suffix_placed R (length set)) kept;
  }
    where
      kept : (i j k : ℕ) → i ≤ j → j < k → placed R (length set) i k ≡ true
          → found (seed_of M (R.live i) (closes R (length set) k) (part i k set)) ≡ true → found (seed_of M (R.live j) (closes R (length set) k) (part j k set)) ≡ true
      kept i j k le lt p q =
          let r = (placed-parts R (length set) i k p).1 in
          rw (← (steady i j le (omega arith)))
          (tails (R.live i) (closes R (length set) k) i j k le lt (omega (arith, (far_le R (length set) i).0)) q)

pub rules_steady : (g : Settings) (stop : TestSlice) (n : ℕ) → Steady (rules g stop) n
rules_steady g stop n i j le lt = refl
