-- One greedy window.
--     Stops, Goes     no window starts at a, and its reach is a; or its reach is its greatest end
--     reach_cases     one of the two
--     reach_le, reach_top, reach-ok, reach_in, reach_end     what follows, fact by fact
--     reach_mono      from a later place one comes at least as far: the only use of suffixes
-- Assumes nothing.
use Rattle.std.specs.Prelude.{None, Option, Some, unwrap_or}
use mathlib.Core.Path.{◌≡◌, refl}
use mathlib.Core.Logic.{◌⊎◌, inl, inr, ⊎_elim}
use mathlib.Core.Bool.{Bool, true}
use Prim.Native.Nat.{ℕ, suc, ◌≤◌, ◌<◌}
use native.Mathlib.Omega.{arith}
use Rattle.words_bounded.specs.Bounded.{last_below}
use Rattle.words_bounded.proofs.Tests.{clash, lt_or_le}
use Rattle.words_bounded.proofs.Search.{last_is, LastIs}
use Rattle.theory_cutting.specs.Greedy.{reach}
use Rattle.theory_cutting.specs.Meaning.{Bounds, Windows}

abbrev pub Stops : (ℕ → ℕ → Bool) → ℕ → ℕ → Type 0
Stops ok a r = (r ≡ a) × ((k : ℕ) → ok a k ≡ true → ⊥)

abbrev pub Goes : (ℕ → ℕ → Bool) → ℕ → ℕ → Type 0
Goes ok a r = (ok a r ≡ true) × (a < r) × ((k : ℕ) → ok a k ≡ true → k ≤ r)

module _ (ok : ℕ → ℕ → Bool) (n : ℕ) (w : Bounds ok n) where
  pub reach_cases : (a : ℕ) → Stops ok a (reach ok n a) ⊎ Goes ok a (reach ok n a)
  unfolding reach
  reach_cases a = go (last_below (ok a) (suc n)) (last_is (ok a) (suc n))
    where
      go : (o : Option ℕ) → LastIs (ok a) (suc n) o → Stops ok a (unwrap_or o a) ⊎ Goes ok a (unwrap_or o a)
      go None all = inl (refl, λ k t. clash (ok a k) t (all k (omega (arith, w.inside a k t))))
      go (Some g) l = inr (l.passes, w.forward a g l.passes, λ k t. l.greatest k (omega (arith, w.inside a k t)) t)

  pub reach_le : (a : ℕ) → a ≤ reach ok n a
  reach_le a = ⊎_elim (λ s. omega arith) (λ g. omega arith) (reach_cases a)

  pub reach_top : (a k : ℕ) → ok a k ≡ true → k ≤ reach ok n a
  reach_top a k t = ⊎_elim (λ s. absurd (s.1 k t)) (λ g. g.2 k t) (reach_cases a)

  pub reach-ok : (a : ℕ) → a < reach ok n a → ok a (reach ok n a) ≡ true
  reach-ok a h = ⊎_elim (λ s. absurd (let e = s.0 in omega arith)) (λ g. g.0) (reach_cases a)

  pub reach_in : (a : ℕ) → a ≤ n → reach ok n a ≤ n
  reach_in a h = ⊎_elim (λ s. omega arith) (λ g. w.inside a (reach ok n a) g.0) (reach_cases a)

  pub reach_end : (a : ℕ) → n ≤ a → reach ok n a ≡ a
  reach_end a h = ⊎_elim (λ s. s.0) (λ g. omega (arith, w.inside a (reach ok n a) g.0)) (reach_cases a)

module _ (ok : ℕ → ℕ → Bool) (n : ℕ) (w : Windows ok n) where
  pub reach_mono : (i j : ℕ) → i ≤ j → reach ok n i ≤ reach ok n j
  reach_mono i j h = ⊎_elim (λ s. omega (arith, reach_le ok n w.bounds j)) far (reach_cases ok n w.bounds i)
    where
      far : Goes ok i (reach ok n i) → reach ok n i ≤ reach ok n j
      far g = ⊎_elim
          (λ lt. reach_top ok n w.bounds j (reach ok n i) (w.suffix i j (reach ok n i) h lt g.0))
          (λ ge. omega (arith, reach_le ok n w.bounds j))
          (lt_or_le j (reach ok n i))
