-- Ahead: the one induction that sets another cutting against the greedy one, and what follows from it.
--     ahead_hop         after any number of windows another cutting of the set or of a start is at most as far as that many greedy windows
--     delivered_all     after as many windows as it has, a cutting is at its end
--     delivered-hop     the greedy ends are where the greedy windows lead
--     ahead             the greedy cutting is at least as far, after any number of windows
--     hop_ahead         and at the end of the other cutting
-- Assumes nothing.
use mathlib.Core.Path.{◌≡◌, refl, sym, ◌∙◌}
use mathlib.Core.Logic.{◌⊎◌, inl, inr}
use mathlib.Core.Bool.{Bool}
use mathlib.Core.List.{List, []}
use Prim.Native.Nat.{ℕ, zero, suc, ◌+◌, ◌≤◌}
use native.Mathlib.Omega.{arith}
use lib.ListN.{length}
use Rattle.theory_cutting.specs.Cutting.{no_window, window, delivered}
use Rattle.theory_cutting.specs.Greedy.{reach, hop, ends}
use Rattle.theory_cutting.specs.Meaning.{Cuts, Bounds, Windows}
use Rattle.theory_cutting.proofs.Reach.{Stops, Goes, reach_cases, reach_le, reach_top, reach_end, reach_mono}
use Rattle.theory_cutting.proofs.Hops.{hop_stays, ends_more, ends-stop}

module _ (ok : ℕ → ℕ → Bool) (n : ℕ) (w : Bounds ok n) where
  hop_le : (j a : ℕ) → a ≤ hop ok n j a
  unfolding hop
  hop_le zero a = omega arith
  hop_le (suc j) a = omega (arith, reach_le ok n w a, hop_le j (reach ok n a))

  delivered_all : {a b : ℕ} {es : List ℕ} → Cuts ok a es b → delivered a es (length es) ≡ b
  unfolding delivered
  delivered_all no_window = refl
  delivered_all (window t c) = delivered_all c

  delivered-none : (a j : ℕ) → delivered a [] j ≡ a
  unfolding delivered
  delivered-none a zero = refl
  delivered-none a (suc j) = refl

  delivered-hop : (j d a : ℕ) → n ≤ a + d → delivered a (ends ok n d a) j ≡ hop ok n j a
  unfolding delivered hop
  delivered-hop zero d a h = refl
  delivered-hop (suc j) d a h = go d h (reach_cases ok n w a) (λ d b f. delivered-hop j d b f)
    where
      stay : (d : ℕ) → reach ok n a ≡ a → delivered a (ends ok n d a) (suc j) ≡ hop ok n (suc j) a
      stay d e = rw (ends-stop ok n d a e) (delivered-none a (suc j)) ∙ sym (hop_stays ok n w a e (suc j))

      go : (d : ℕ) → n ≤ a + d → Stops ok a (reach ok n a) ⊎ Goes ok a (reach ok n a)
          → ((d b : ℕ) → n ≤ b + d → delivered b (ends ok n d b) j ≡ hop ok n j b) → delivered a (ends ok n d a) (suc j) ≡ hop ok n (suc j) a
      go d h (inl s) ih = stay d s.0
      go zero h (inr g) ih = stay zero (reach_end ok n w a (omega arith))
      go (suc d) h (inr g) ih = rw (ends_more ok n d a g.1, delivered) (ih d (reach ok n a) (let l = g.1 in omega arith))

module _ (ok : ℕ → ℕ → Bool) (n : ℕ) (w : Windows ok n) where
  ahead_hop : {a b : ℕ} {es : List ℕ} (j g : ℕ) → Cuts ok a es b → a ≤ g → delivered a es j ≤ hop ok n j g
  unfolding delivered hop
  ahead_hop zero g c h = h
  ahead_hop (suc j) g no_window h = omega (arith, hop_le ok n w.bounds (suc j) g)
  ahead_hop {a} (suc j) g (window {k = k} t c) h =
      ahead_hop j (reach ok n g) c (omega (arith, reach_top ok n w.bounds a k t, reach_mono ok n w a g h))

  pub ahead : {a b : ℕ} {es : List ℕ} → Cuts ok a es b → (j d g : ℕ) → a ≤ g → n ≤ g + d → delivered a es j ≤ delivered g (ends ok n d g) j
  ahead c j d g h f = omega (arith, ahead_hop j g c h, delivered-hop ok n w.bounds j d g f)

  pub hop_ahead : {a b : ℕ} {es : List ℕ} (g : ℕ) → Cuts ok a es b → a ≤ g → b ≤ hop ok n (length es) g
  hop_ahead {es = es} g c h = omega (arith, ahead_hop (length es) g c h, delivered_all ok n w.bounds c)
