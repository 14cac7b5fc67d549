-- The theorem: the greedy cutting has the fewest windows, is ahead after any number of them, and is stuck only where there is no cutting. It names neither limit, nor edges, nor closing: those are in ok.
--     fewest_ends      no cutting of the whole has fewer windows
--     farthest         what can be cut ends at or before the place where greedy stops
--     never_stuck      where there is a cutting of the whole, greedy comes to its end
--     greedy_means     greedy's plan means what it says
--     impossible       greedy is stuck exactly where there is no cutting
-- Assumes nothing.
use mathlib.Core.Path.{◌≡◌, refl, subst}
use mathlib.Core.Logic.{◌↔◌}
use mathlib.Core.Bool.{Bool, true, false}
use mathlib.Core.List.{List, [], ◌∷◌}
use Prim.Native.Nat.{ℕ, zero, suc, ◌≤◌}
use native.Mathlib.Omega.{arith}
use lib.Dec.{ltb, eqb}
use lib.ListN.{length}
use borrow.Author.Tests.{ltb-true, eqb-true, eqb-false}
use Rattle.theory_cutting.specs.Greedy.{reach, hop, ends, Plan, done, stuck, greedy}
use Rattle.theory_cutting.specs.Meaning.{Cuts, Windows, StuckAt, Means}
use Rattle.theory_cutting.proofs.Reach.{reach_end}
use Rattle.theory_cutting.proofs.Hops.{hop_stays, hop_in, hop-stops, ends_cut}
use Rattle.theory_cutting.proofs.Ahead.{ahead, hop_ahead}

module _ (ok : ℕ → ℕ → Bool) (n : ℕ) (w : Windows ok n) where
  -- where c windows come to a stop, there are at most c
  ends_short : (d c a : ℕ) → reach ok n (hop ok n c a) ≡ hop ok n c a → length (ends ok n d a) ≤ c
  unfolding hop ends
  ends_short zero c a e = omega arith
  ends_short (suc d) c a e = go (ltb a (reach ok n a)) refl c e (λ c' e'. ends_short d c' (reach ok n a) e')
    where
      go : (b : Bool) → ltb a (reach ok n a) ≡ b → (c : ℕ) → reach ok n (hop ok n c a) ≡ hop ok n c a
          → ((c' : ℕ) → reach ok n (hop ok n c' (reach ok n a)) ≡ hop ok n c' (reach ok n a) → length (ends ok n d (reach ok n a)) ≤ c')
          → length {A = ℕ} (elim b [ true ↦ reach ok n a ∷ ends ok n d (reach ok n a) | false ↦ [] ]) ≤ c
      go true q zero e ih = absurd (let l = ltb-true a (reach ok n a) q in omega arith)
      go true q (suc c) e ih = omega (arith, ih c e)
      go false q c e ih = omega arith

  pub fewest_ends : {es : List ℕ} → Cuts ok 0 es n → length (ends ok n n 0) ≤ length es
  fewest_ends {es} c =
      ends_short n (length es) 0 (reach_end ok n w.bounds (hop ok n (length es) 0) (hop_ahead ok n w 0 c (omega arith)))

  pub farthest : {b : ℕ} {es : List ℕ} → Cuts ok 0 es b → b ≤ hop ok n n 0
  farthest {es = es} c =
      let g : ℕ = hop ok n n 0 in
      omega (arith, hop_ahead ok n w g c (omega arith), hop_stays ok n w.bounds g (hop-stops ok n w.bounds n 0 (omega arith)) (length es))

  pub never_stuck : {es : List ℕ} → Cuts ok 0 es n → hop ok n n 0 ≡ n
  never_stuck c = omega (arith, farthest c, hop_in ok n w.bounds n 0 (omega arith))

pub greedy_means : (ok : ℕ → ℕ → Bool) (n : ℕ) → Windows ok n → Means ok n (greedy ok n)
unfolding greedy
greedy_means ok n w = go (eqb (hop ok n n 0) n) refl
  where
    go : (b : Bool) → eqb (hop ok n n 0) n ≡ b → Means ok n (elim b [ true ↦ done (ends ok n n 0) | false ↦ stuck (hop ok n n 0) ])
    go true e = record {
      cuts = rw (eqb-true (hop ok n n 0) n e) at (ends_cut ok n w.bounds n 0);
      fewest = λ fs c. fewest_ends ok n w c;
      ahead = λ b fs c j. ahead ok n w c j n 0 (omega arith) (omega arith);
    }
    go false e = record {
      short = let ne : ¬ (hop ok n n 0 ≡ n) = eqb-false (hop ok n n 0) n e in omega (arith, hop_in ok n w.bounds n 0 (omega arith));
      upto = ends ok n n 0;
      cuts = ends_cut ok n w.bounds n 0;
      longest = λ b fs c. farthest ok n w c;
    }

pub impossible : (ok : ℕ → ℕ → Bool) (n : ℕ) → Windows ok n → ((g : ℕ) × (greedy ok n ≡ stuck g)) ↔ ((fs : List ℕ) → Cuts ok 0 fs n → ⊥)
impossible ok n w = (to, from (greedy ok n) refl (greedy_means ok n w))
  where
    to : (g : ℕ) × (greedy ok n ≡ stuck g) → (fs : List ℕ) → Cuts ok 0 fs n → ⊥
    to r fs c = let m : StuckAt ok n r.0 = subst (Means ok n) r.1 (greedy_means ok n w) in omega (arith, m.short, m.longest n fs c)

    from : (p : Plan) → greedy ok n ≡ p → Means ok n p → ((fs : List ℕ) → Cuts ok 0 fs n → ⊥) → (g : ℕ) × (greedy ok n ≡ stuck g)
    from (done es) e m no_cut = absurd (no_cut es m.cuts)
    from (stuck g) e m no_cut = (g, e)
