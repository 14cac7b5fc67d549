-- The choice of a step is document 01's: the greatest count, on a tie the leftmost position, and there the 0s before the 1s.
--     bits_apart                 a slice has one bit at a position
--     Chosen stop counts n q     of the choices below n at unset positions, q has the greatest count, and each lower one has less
--     ChoiceIs, choice_is        the choice is so, or every position is set
--     zero_bit, zero_leftmost    where the greatest count is 0, the choice is the leftmost unset position with the bit 0, which becomes 1
-- Assumes nothing.
use Rattle.std.specs.Prelude.{None, Option, Some}
use mathlib.Core.Path.{◌≡◌, refl}
use mathlib.Core.Logic.{⊎_elim}
use mathlib.Core.Bool.{Bool, true, false}
use Prim.Native.Nat.{ℕ, zero, suc, ◌-◌, ◌*◌, ◌/◌, ◌%◌, ◌≤◌, ◌<◌}
use native.Mathlib.Nat.{not-suc-le-zero, le_of_suc-le-suc, eq-or-lt_of_le}
use native.Mathlib.Omega.{arith}
use lib.Dec.{ltb, eqb}
use borrow.Author.Tests.{ltb-true, ltb-false, eqb-true, ne_eqb}
use Rattle.words_bounded.proofs.Tests.{clash, lt_or_le, both}
use Rattle.words_gf2.specs.Words.{digit}
use Rattle.machine_slices.specs.declared.TestSlice.{TestSlice}
use Rattle.stop_steps.specs.Steps.{has, is_set, better, choice}

pub record Chosen (stop : TestSlice) (counts : ℕ → ℕ) (n q : ℕ) : Type 0 where
  pub below : q < n
  pub unset : is_set (q / 2) stop ≡ false
  pub greatest : (r : ℕ) → r < n → is_set (r / 2) stop ≡ false → counts r ≤ counts q
  pub first : (r : ℕ) → r < q → is_set (r / 2) stop ≡ false → counts r < counts q

abbrev pub ChoiceIs : TestSlice → (ℕ → ℕ) → ℕ → Option ℕ → Type 0
ChoiceIs stop counts n None = (r : ℕ) → r < n → is_set (r / 2) stop ≡ true
ChoiceIs stop counts n (Some q) = Chosen stop counts n q

-- the two bits of a position are apart
pub bits_apart : (p b : ℕ) (x : TestSlice) → b < 2 → has p (1 - b) x ≡ true → has p b x ≡ false
bits_apart p b x l t =
    let a = both (eqb (digit x.specified p) 1) (eqb (digit x.bits p) (1 - b)) t in
    let d = eqb-true (digit x.bits p) (1 - b) a.1 in
    rw (a.0, ne_eqb (digit x.bits p) b (λ e. omega arith))

module _ (stop : TestSlice) (counts : ℕ → ℕ) where
  -- what holds at n and of each number below n
  up_to : (P : ℕ → Type 0) (n : ℕ) → P n → ((r : ℕ) → r < n → P r) → (r : ℕ) → r < suc n → P r
  up_to P n here all r h = ⊎_elim (λ e. rw e here) (λ l. all r l) (eq-or-lt_of_le (le_of_suc-le-suc h))

  -- the position of n is set
  skip : (n : ℕ) (o : Option ℕ) → is_set (n / 2) stop ≡ true → ChoiceIs stop counts n o → ChoiceIs stop counts (suc n) o
  skip n None t all = up_to (λ r. is_set (r / 2) stop ≡ true) n t all
  skip n (Some q) t c = record {
    below = omega (arith, c.below);
    unset = c.unset;
    greatest = up_to (λ r. is_set (r / 2) stop ≡ false → counts r ≤ counts q) n (λ f. absurd (clash (is_set (n / 2) stop) t f)) c.greatest;
    first = c.first;
  }

  -- n against the best below it
  weigh : (n : ℕ) (o : Option ℕ) → is_set (n / 2) stop ≡ false → ChoiceIs stop counts n o → ChoiceIs stop counts (suc n) (better counts n o)
  unfolding better
  weigh n None f all = record {
    below = omega arith;
    unset = f;
    greatest = up_to (λ r. is_set (r / 2) stop ≡ false → counts r ≤ counts n) n (λ g. omega arith) (λ r h g. absurd (clash (is_set (r / 2) stop) (all r h) g));
    first = λ r h g. absurd (clash (is_set (r / 2) stop) (all r h) g);
  }
  weigh n (Some q) f c = go (ltb (counts q) (counts n)) refl
    where
      go : (b : Bool) → ltb (counts q) (counts n) ≡ b → ChoiceIs stop counts (suc n) (elim b [ true ↦ Some n | false ↦ Some q ])
      go true e =
          let l = ltb-true (counts q) (counts n) e in
          record {
            below = omega arith;
            unset = f;
            greatest = up_to (λ r. is_set (r / 2) stop ≡ false → counts r ≤ counts n) n (λ g. omega arith) (λ r h g. omega (arith, c.greatest r h g));
            first = λ r h g. omega (arith, c.greatest r h g);
          }
      go false e =
          let l = ltb-false (counts q) (counts n) e in
          record {
            below = omega (arith, c.below);
            unset = c.unset;
            greatest = up_to (λ r. is_set (r / 2) stop ≡ false → counts r ≤ counts q) n (λ g. l) c.greatest;
            first = c.first;
          }

  pub choice_is : (n : ℕ) → ChoiceIs stop counts n (choice stop counts n)
  unfolding choice
  choice_is zero = λ r h. absurd (not-suc-le-zero h)
  choice_is (suc n) = go (is_set (n / 2) stop) refl (choice_is n)
    where
      go : (b : Bool) → is_set (n / 2) stop ≡ b → ChoiceIs stop counts n (choice stop counts n)
          → ChoiceIs stop counts (suc n) (elim b [ true ↦ choice stop counts n | false ↦ better counts n (choice stop counts n) ])
      go true e c = skip n (choice stop counts n) e c
      go false e c = weigh n (choice stop counts n) e c

  module _ (n q : ℕ) (c : Chosen stop counts n q) (none-counted : counts q ≡ 0) where
    lower-set : (r : ℕ) → r < q → is_set (r / 2) stop ≡ false → ⊥
    lower-set r h f = omega (arith, c.first r h f)

    pub zero_bit : q % 2 ≡ 0
    zero_bit = ⊎_elim (λ z. omega arith)
        (λ o. absurd (lower-set (q - 1) (omega arith) (let e : (q - 1) / 2 ≡ q / 2 = omega arith in rw e c.unset)))
        (lt_or_le (q % 2) 1)

    pub zero_leftmost : (p : ℕ) → p < q / 2 → is_set p stop ≡ true
    zero_leftmost p h = go (is_set p stop) refl
      where
        go : (b : Bool) → is_set p stop ≡ b → b ≡ true
        go true e = refl
        go false e = absurd (lower-set (2 * p) (omega arith) (let d : 2 * p / 2 ≡ p = omega arith in rw d e))
