-- The seeds of the greedy cutting cover it, and between cuttings by the test of a window and cuttings by covered windows.
--     seed-covers        a window that passes the test is covered by its seed
--     seeds_cover        the seeds of a cutting cover it
--     seeds-length       there is one for each window
--     cuts_windows, windows_cuts, covering_cuts     between the two kinds of cuttings
-- Assumes nothing.
use Rattle.std.specs.Prelude.{unwrap_or}
use mathlib.Core.Path.{◌≡◌, refl, ap}
use mathlib.Core.Bool.{true}
use mathlib.Core.List.{List, [], ◌∷◌}
use Prim.Native.Nat.{ℕ, suc}
use lib.ListN.{length}
use Rattle.words_bounded.proofs.Tests.{both}
use Rattle.machine_settings.specs.Machine.{Machine}
use Rattle.machine_slices.specs.declared.TestSlice.{TestSlice}
use Rattle.theory_cutting.specs.Cutting.{Cutting, no_window, window, Covering, without_state, state}
use Rattle.theory_cutting.specs.Meaning.{Cuts}
use Rattle.theory_cutting.proofs.Parts.{cutting_map, covering_cutting}
use Rattle.theory_covering.specs.Rules.{Rules}
use Rattle.theory_covering.specs.Windows.{part, placed, closes, covers_part, CoveredBy, Window, seed_at, found, ok}
use Rattle.theory_covering.proofs.Tail.{found_covered}
use Rattle.theory_covering.proofs.Windows.{ok_window, window_ok}
use Rattle.encoder_meaning.specs.Encoding.{seeds_of}

module _ (M : Machine) (R : Rules) (set : List TestSlice) where
  seed-covers : (i k : ℕ) → ok M R set i k ≡ true → CoveredBy M R set i k (unwrap_or (seed_at M R set i k) 0)
  unfolding ok seed_at covers_part
  seed-covers i k t =
      let a = both (placed R (length set) i k) (found (seed_at M R set i k)) t in
      let f = found_covered M (R.live i) (closes R (length set) k) (part i k set) a.1 in
      rw f.1 (record { place = a.0; below = f.2; covered = f.3 })

  pub seeds_cover : {a b : ℕ} {es : List ℕ} → Cuts (ok M R set) a es b → Covering (CoveredBy M R set) a es (seeds_of M R set a es) b
  unfolding seeds_of
  seeds_cover no_window = without_state
  seeds_cover (window {a = a} {k = k} t c) = state (seed-covers a k t) (seeds_cover c)

  pub seeds-length : (a : ℕ) (es : List ℕ) → length (seeds_of M R set a es) ≡ length es
  unfolding seeds_of
  seeds-length a [] = refl
  seeds-length a (k ∷ es) = ap suc (seeds-length k es)

  pub cuts_windows : {a b : ℕ} {es : List ℕ} → Cuts (ok M R set) a es b → Cutting (Window M R set) a es b
  cuts_windows c = cutting_map (λ i k. ok M R set i k ≡ true) (Window M R set) (ok_window M R set) c

  pub windows_cuts : {a b : ℕ} {es : List ℕ} → Cutting (Window M R set) a es b → Cuts (ok M R set) a es b
  windows_cuts c = cutting_map (Window M R set) (λ i k. ok M R set i k ≡ true) (λ i k w. window_ok M R set i k w.0 w.1) c

  pub covering_cuts : {a b : ℕ} {es ss : List ℕ} → Covering (CoveredBy M R set) a es ss b → Cuts (ok M R set) a es b
  covering_cuts c = windows_cuts (covering_cutting (CoveredBy M R set) c)
