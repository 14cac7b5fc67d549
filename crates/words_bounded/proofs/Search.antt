-- What a bounded search answers.
--     LeastIs, LastIs      what an answer says, by the answer
--     least_is, last_is    the answer of the search says it
--     last_of, last_none   the answer of a search that goes down, from what it says
--     least_same           two tests that pass the same numbers have the same least
--     least_of, none_of    the answer from what it says: of a loop that goes up, what it passed over and what it stops at
-- Assumes nothing.
use Rattle.std.specs.Prelude.{None, Option, Some}
use mathlib.Core.Path.{◌≡◌, refl, sym, ap}
use mathlib.Core.Logic.{⊎_elim}
use mathlib.Core.Bool.{Bool, true, false}
use Prim.Native.Nat.{ℕ, zero, suc, ◌<◌}
use native.Mathlib.Nat.{not-suc-le-zero, le_of_suc-le-suc, eq-or-lt_of_le, lt_of_lt_of_le, le_of_lt}
use native.Mathlib.Omega.{arith}
use Rattle.words_bounded.specs.Bounded.{least_below, last_below, NoneBelow, Least, Last}
use Rattle.words_bounded.proofs.Tests.{clash, fails, lt_or_le}

abbrev pub LeastIs : (ℕ → Bool) → ℕ → Option ℕ → Type 0
LeastIs p n None = NoneBelow p n
LeastIs p n (Some g) = Least p n g

abbrev pub LastIs : (ℕ → Bool) → ℕ → Option ℕ → Type 0
LastIs p n None = NoneBelow p n
LastIs p n (Some g) = Last p n g

module _ (p : ℕ → Bool) where
  none_more : (n : ℕ) → NoneBelow p n → p n ≡ false → NoneBelow p (suc n)
  none_more n all here k h = ⊎_elim (λ e. rw e here) (λ l. all k l) (eq-or-lt_of_le (le_of_suc-le-suc h))

  pub last_is : (n : ℕ) → LastIs p n (last_below p n)
  unfolding last_below
  last_is zero = λ k h. absurd (not-suc-le-zero h)
  last_is (suc n) = go (p n) refl (last_is n)
    where
      up : (o : Option ℕ) → p n ≡ false → LastIs p n o → LastIs p (suc n) o
      up None e all = none_more n all e
      up (Some g) e l = record {
        below = omega (arith, l.below);
        passes = l.passes;
        greatest = λ k h t. ⊎_elim (λ q. absurd (clash (p n) (rw q at t) e)) (λ lt. l.greatest k lt t) (eq-or-lt_of_le (le_of_suc-le-suc h));
      }

      go : (b : Bool) → p n ≡ b → LastIs p n (last_below p n) → LastIs p (suc n) (elim b [ true ↦ Some n | false ↦ last_below p n ])
      go true e l = record { below = omega arith; passes = e; greatest = λ k h t. le_of_suc-le-suc h }
      go false e l = up (last_below p n) e l

  pub least_is : (n : ℕ) → LeastIs p n (least_below p n)
  unfolding least_below
  least_is zero = λ k h. absurd (not-suc-le-zero h)
  least_is (suc n) = go (least_below p n) (p n) refl (least_is n)
    where
      go : (o : Option ℕ) (b : Bool) → p n ≡ b → LeastIs p n o
          → LeastIs p (suc n) (elim o [ Some g ↦ Some g | None ↦ elim b [ true ↦ Some n | false ↦ None ] ])
      go None true e all = record { below = omega arith; passes = e; least = all }
      go None false e all = none_more n all e
      go (Some g) b e l = record { below = omega (arith, l.below); passes = l.passes; least = l.least }

module _ (p : ℕ → Bool) (n : ℕ) where
  pub least_of : (s : ℕ) → s < n → NoneBelow p s → p s ≡ true → least_below p n ≡ Some s
  least_of s h none_yet t = go (least_below p n) (least_is p n)
    where
      go : (o : Option ℕ) → LeastIs p n o → o ≡ Some s
      go None all = absurd (clash (p s) t (all s h))
      go (Some g) l = ap Some (⊎_elim
          (λ lt. absurd (clash (p g) l.passes (none_yet g lt)))
          (λ le. ⊎_elim (λ lt. absurd (clash (p s) t (l.least s lt))) (λ ge. omega arith) (lt_or_le s g))
          (lt_or_le g s))

  pub none_of : NoneBelow p n → least_below p n ≡ None
  none_of none_yet = go (least_below p n) (least_is p n)
    where
      go : (o : Option ℕ) → LeastIs p n o → o ≡ None
      go None all = refl
      go (Some g) l = absurd (clash (p g) l.passes (none_yet g l.below))

  pub last_of : (k : ℕ) → k < n → p k ≡ true → ((j : ℕ) → k < j → j < n → p j ≡ false) → last_below p n ≡ Some k
  last_of k h t none-later = go (last_below p n) (last_is p n)
    where
      go : (o : Option ℕ) → LastIs p n o → o ≡ Some k
      go None all = absurd (clash (p k) t (all k h))
      go (Some g) l = ap Some (⊎_elim
          (λ lt. absurd (clash (p g) l.passes (none-later g lt l.below)))
          (λ le. omega (arith, l.greatest k h t))
          (lt_or_le k g))

  pub last_none : NoneBelow p n → last_below p n ≡ None
  last_none none_yet = go (last_below p n) (last_is p n)
    where
      go : (o : Option ℕ) → LastIs p n o → o ≡ None
      go None all = refl
      go (Some g) l = absurd (clash (p g) l.passes (none_yet g l.below))

-- two tests that pass the same numbers below their bounds have the same least
pub least_same : (p q : ℕ → Bool) (m n : ℕ) → ((s : ℕ) → s < m → p s ≡ true → (s < n) × (q s ≡ true)) → ((s : ℕ) → s < n → q s ≡ true → (s < m) × (p s ≡ true))
    → least_below p m ≡ least_below q n
least_same p q m n to from = go (least_below p m) (least_is p m)
  where
    go : (o : Option ℕ) → LeastIs p m o → o ≡ least_below q n
    go None all = sym (none_of q n (λ k h. fails (q k) (λ t. let a = from k h t in clash (p k) a.1 (all k a.0))))
    go (Some g) l =
        let a = to g l.below l.passes in
        sym (least_of q n g a.0 (λ k h. fails (q k) (λ t. let b = from k (lt_of_lt_of_le h (le_of_lt a.0)) t in clash (p k) b.1 (l.least k h))) a.1)
