-- Laws of tests that are Bools.
--     clash          a test is not both true and false
--     lt_or_le       two numbers compare
--     eq_or_not      two numbers are one, or not
--     bit_cases      a bit is 0 or 1
--     fails          a test that does not hold is false
--     both, and_yes     a conjunction is true, and its parts are
--     alike          two tests, each true where the other is, are one
--     neither        a disjunction is false, and its parts are
--     either, or_right     a disjunction is true, and one of its parts is
--     within_yes, below_within, above_within, within_holds     what "low to high" says
-- Assumes nothing.
use mathlib.Core.Path.{◌≡◌, refl, sym}
use mathlib.Core.Logic.{◌⊎◌, inl, inr}
use mathlib.Core.Bool.{Bool, true, false, ◌&&◌, ◌||◌}
use Prim.Native.Nat.{ℕ, zero, suc, ◌≤◌, ◌<◌}
use native.Mathlib.Omega.{arith}
use lib.Dec.{ltb, leb, eqb}
use borrow.Author.Tests.{ltb-true, ltb-false, leb-true, le-leb, lt-leb, eqb-true, eqb-false}
use Rattle.words_bounded.specs.Bounded.{within}

pub clash : (b : Bool) → b ≡ true → b ≡ false → ⊥
clash b t f = let z : ◌≡◌ {A = ℕ} 0 1 = cc in omega arith

pub lt_or_le : (a b : ℕ) → (a < b) ⊎ (b ≤ a)
lt_or_le a b = go (ltb a b) refl
  where
    go : (t : Bool) → ltb a b ≡ t → (a < b) ⊎ (b ≤ a)
    go true e = inl (ltb-true a b e)
    go false e = inr (ltb-false a b e)

pub eq_or_not : (a b : ℕ) → (a ≡ b) ⊎ (a ≡ b → ⊥)
eq_or_not a b = go (eqb a b) refl
  where
    go : (t : Bool) → eqb a b ≡ t → (a ≡ b) ⊎ (a ≡ b → ⊥)
    go true e = inl (eqb-true a b e)
    go false e = inr (eqb-false a b e)

pub bit_cases : (b : ℕ) → b < 2 → (b ≡ 0) ⊎ (b ≡ 1)
bit_cases zero h = inl refl
bit_cases (suc zero) h = inr refl
bit_cases (suc (suc b)) h = absurd (omega arith)

pub fails : (b : Bool) → (b ≡ true → ⊥) → b ≡ false
fails true f = absurd (f refl)
fails false f = refl

pub both : (a b : Bool) → a && b ≡ true → (a ≡ true) × (b ≡ true)
both true b e = (refl, e)
both false b e = (e, cc)

pub and_yes : (a b : Bool) → a ≡ true → b ≡ true → a && b ≡ true
and_yes a b p q = rw (p, q)

pub alike : (a b : Bool) → (a ≡ true → b ≡ true) → (b ≡ true → a ≡ true) → a ≡ b
alike true b f g = sym (f refl)
alike false true f g = g refl
alike false false f g = refl

pub neither : (a b : Bool) → a || b ≡ false → (a ≡ false) × (b ≡ false)
neither true b e = (e, cc)
neither false b e = (refl, e)

pub either : (a b : Bool) → a || b ≡ true → (a ≡ true) ⊎ (b ≡ true)
either true b e = inl refl
either false b e = inr e

pub or_right : (a b : Bool) → b ≡ true → a || b ≡ true
or_right true b e = refl
or_right false b e = e

pub within_yes : (low high n : ℕ) → within low high n ≡ true → (low ≤ n) × (n ≤ high)
unfolding within
within_yes low high n t =
    let p = both (leb low n) (leb n high) t in
    (leb-true low n p.0, leb-true n high p.1)

pub below_within : (low high n : ℕ) → n < low → within low high n ≡ false
unfolding within
below_within low high n h = rw (lt-leb low n h)

pub above_within : (low high n : ℕ) → high < n → within low high n ≡ false
unfolding within
above_within low high n h = fails (leb low n && leb n high) (λ t. clash (leb n high) (both (leb low n) (leb n high) t).1 (lt-leb n high h))

pub within_holds : (low high n : ℕ) → low ≤ n → n ≤ high → within low high n ≡ true
unfolding within
within_holds low high n h g = and_yes (leb low n) (leb n high) (le-leb low n h) (le-leb n high g)
