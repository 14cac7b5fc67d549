-- Many greedy windows.
--     hop_stays, hop_in, hop-stops     where they lead; with a window for each place that is left they stop
--     ends_more, ends-stop             one window more, and none
--     ends_cut                         they are a cutting
-- Assumes nothing.
use mathlib.Core.Path.{◌≡◌, refl}
use mathlib.Core.Logic.{⊎_elim}
use mathlib.Core.Bool.{Bool, true, false}
use mathlib.Core.List.{[], ◌∷◌}
use Prim.Native.Nat.{ℕ, zero, suc, ◌+◌, ◌≤◌, ◌<◌}
use native.Mathlib.Omega.{arith}
use lib.Dec.{ltb}
use borrow.Author.Tests.{ltb-true, ltb-false, lt-ltb, le-ltb}
use Rattle.theory_cutting.specs.Cutting.{no_window, window}
use Rattle.theory_cutting.specs.Greedy.{reach, hop, ends}
use Rattle.theory_cutting.specs.Meaning.{Cuts, Bounds}
use Rattle.theory_cutting.proofs.Reach.{reach_cases, reach_le, reach-ok, reach_in, reach_end}

module _ (ok : ℕ → ℕ → Bool) (n : ℕ) where
  pub ends_more : (d a : ℕ) → a < reach ok n a → ends ok n (suc d) a ≡ reach ok n a ∷ ends ok n d (reach ok n a)
  unfolding ends
  ends_more d a h = rw (lt-ltb a (reach ok n a) h, ends)

  pub ends-stop : (d a : ℕ) → reach ok n a ≡ a → ends ok n d a ≡ []
  unfolding ends
  ends-stop zero a e = refl
  ends-stop (suc d) a e = rw (le-ltb a (reach ok n a) (omega arith), ends)

module _ (ok : ℕ → ℕ → Bool) (n : ℕ) (w : Bounds ok n) where
  pub hop_stays : (a : ℕ) → reach ok n a ≡ a → (d : ℕ) → hop ok n d a ≡ a
  unfolding hop
  hop_stays a e zero = refl
  hop_stays a e (suc d) = rw e (hop_stays a e d)

  pub hop_in : (d a : ℕ) → a ≤ n → hop ok n d a ≤ n
  unfolding hop
  hop_in zero a h = h
  hop_in (suc d) a h = hop_in d (reach ok n a) (reach_in ok n w a h)

  pub hop-stops : (d a : ℕ) → n ≤ a + d → reach ok n (hop ok n d a) ≡ hop ok n d a
  unfolding hop
  hop-stops zero a h = reach_end ok n w a (omega arith)
  hop-stops (suc d) a h = ⊎_elim
      (λ s. rw s.0 (rw (hop_stays a s.0 d) s.0))
      (λ g. hop-stops d (reach ok n a) (let l = g.1 in omega arith))
      (reach_cases ok n w a)

  pub ends_cut : (d a : ℕ) → Cuts ok a (ends ok n d a) (hop ok n d a)
  unfolding hop ends
  ends_cut zero a = no_window
  ends_cut (suc d) a = go (ltb a (reach ok n a)) refl (ends_cut d (reach ok n a))
    where
      stay : reach ok n a ≤ a → reach ok n a ≡ a
      stay h = omega (arith, reach_le ok n w a)

      go : (b : Bool) → ltb a (reach ok n a) ≡ b → Cuts ok (reach ok n a) (ends ok n d (reach ok n a)) (hop ok n d (reach ok n a))
          → Cuts ok a (elim b [ true ↦ reach ok n a ∷ ends ok n d (reach ok n a) | false ↦ [] ]) (hop ok n d (reach ok n a))
      go true e c = window (reach-ok ok n w a (ltb-true a (reach ok n a) e)) c
      go false e c =
          let s = stay (ltb-false a (reach ok n a) e) in
          rw s (rw (hop_stays a s d) no_window)
