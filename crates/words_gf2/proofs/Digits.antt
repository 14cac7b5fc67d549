-- Laws of digits.
--     digit_lt, digit_zero, digit-suc     a digit is 0 or 1; the lowest; the one above
--     digit_wide, digit-none     beyond the word every digit is 0, and so is every digit of 0
--     digit_mod                  a digit of a remainder that has it
--     digit_and, digit_or        a digit of a conjunction is the lesser of the two, and of a disjunction the greater
--     words_equal                two words with the same digits are one
--     xor-half, xor_low          the rest and the lowest digit of an exclusive or
--     put_same, put_other, put_below     a word with a bit put into a cell that held 0: that cell, each other cell, and the width
--     unit_same, unit_other      the digits of a single bit
--     beyond_no, no_beyond       what "a bit at or above n" says
--     beyond_quotient            a bit at or above n is what is left of the quotient by 2 ^ n
--     beyond_wide                a word has no bit at or above a wider width
--     one_shifted                a single bit in a word of 64
-- Assumes nothing.
use mathlib.Core.Path.{◌≡◌, refl, sym, ap, ◌∙◌, subst}
use mathlib.Core.Bool.{Bool, true, false}
use Prim.Native.Nat.{ℕ, zero, suc, ◌+◌, ◌-◌, ◌*◌, ◌/◌, ◌%◌, ◌^◌, ◌≤◌, ◌<◌, min, max}
use native.Mathlib.Nat.{div-div-eq-div-mul, div-one, zero-div, le-div_iff_mul-le, div-eq_of_lt, mul_left_comm}
use native.Mathlib.Omega.{arith}
use lib.Arith.{bin_ind}
use lib.Bits.{bit_and, bit_or, bit_xor, differ, and_step, or_step, xor_step, and_shr, or_shr}
use lib.Dec.{leb, ltb}
use lib.Pow.{pow_pos, pow_mono, field, mod-mod-pow}
use borrow.Author.Tests.{leb-true, leb-false, lt-leb, lt-ltb, le-ltb}
use Rattle.words_gf2.specs.Words.{digit, beyond}

pub digit_lt : (x i : ℕ) → digit x i < 2
unfolding digit
digit_lt x i = omega arith

pub digit_zero : (x : ℕ) → digit x 0 ≡ x % 2
unfolding digit
digit_zero x = rw div-one

pub digit-suc : (x i : ℕ) → digit x (suc i) ≡ digit (x / 2) i
unfolding digit
digit-suc x i =
    let e : 2 ^ suc i ≡ 2 * 2 ^ i = omega arith in
    rw (e, ← div-div-eq-div-mul x 2 (2 ^ i))

pub digit_wide : (w x i : ℕ) → w ≤ i → x < 2 ^ w → digit x i ≡ 0
unfolding digit
digit_wide w x i h l = let p : 2 ^ w ≤ 2 ^ i = pow_mono h in rw (div-eq_of_lt (let q : x < 2 ^ i = omega arith in q))

pub digit_mod : (x i n : ℕ) → i < n → digit (x % 2 ^ n) i ≡ digit x i
unfolding digit
digit_mod x i n h =
    let j : ℕ = n - i - 1 in
    let e : n ≡ j + 1 + i = omega arith in
    subst (λ (w : ℕ). x % 2 ^ w / 2 ^ i % 2 ≡ x / 2 ^ i % 2) (sym e) (rw (field x (j + 1) i) (mod-mod-pow (x / 2 ^ i) j 1))

pub digit_and : (a b i : ℕ) → digit (bit_and a b) i ≡ min (digit a i) (digit b i)
unfolding digit
digit_and a b i = ap (λ (x : ℕ). x % 2) (and_shr a b i) ∙ (let e = and_step (a / 2 ^ i) (b / 2 ^ i) in omega arith)

pub digit_or : (a b i : ℕ) → digit (bit_or a b) i ≡ max (digit a i) (digit b i)
unfolding digit
digit_or a b i = ap (λ (x : ℕ). x % 2) (or_shr a b i) ∙ (let e = or_step (a / 2 ^ i) (b / 2 ^ i) in omega arith)

pub digit-none : (i : ℕ) → digit 0 i ≡ 0
unfolding digit
digit-none i = ap (λ (x : ℕ). x % 2) (zero-div (2 ^ i))

pub words_equal : (a b : ℕ) → ((i : ℕ) → digit a i ≡ digit b i) → a ≡ b
words_equal =
    bin_ind (λ (a : ℕ). (b : ℕ) → ((i : ℕ) → digit a i ≡ digit b i) → a ≡ b)
    (bin_ind (λ (b : ℕ). ((i : ℕ) → digit 0 i ≡ digit b i) → 0 ≡ b)
    (λ h. refl)
    (λ b ih h.
    let low : 0 ≡ b % 2 = sym (digit-none 0) ∙ h 0 ∙ digit_zero b in
    let rest = ih (λ i. digit-none i ∙ sym (digit-none (suc i)) ∙ h (suc i) ∙ digit-suc b i) in
    omega arith))
    (λ a ih b h.
    let low : a % 2 ≡ b % 2 = sym (digit_zero a) ∙ h 0 ∙ digit_zero b in
    let rest = ih (b / 2) (λ i. sym (digit-suc a i) ∙ h (suc i) ∙ digit-suc b i) in
    omega arith)

-- a bit's weight one cell higher
weight_suc : (b p : ℕ) → b * 2 ^ suc p ≡ 2 * (b * 2 ^ p)
weight_suc b p = let e : 2 ^ suc p ≡ 2 * 2 ^ p = omega arith in ap (λ (w : ℕ). b * w) e ∙ mul_left_comm b 2 (2 ^ p)

module _ (b : ℕ) (bit : b < 2) where
  half-put : (x p : ℕ) → (x + b * 2 ^ suc p) / 2 ≡ x / 2 + b * 2 ^ p
  half-put x p = let e = weight_suc b p in omega arith

  pub put_same : (x p : ℕ) → digit x p ≡ 0 → digit (x + b * 2 ^ p) p ≡ b
  put_same x zero z = digit_zero (x + b * 1) ∙ (let l = digit_zero x in omega arith)
  put_same x (suc p) z = digit-suc (x + b * 2 ^ suc p) p ∙ ap (λ (y : ℕ). digit y p) (half-put x p) ∙ put_same (x / 2) p (sym (digit-suc x p) ∙ z)

  pub put_other : (x p i : ℕ) → digit x p ≡ 0 → (i ≡ p → ⊥) → digit (x + b * 2 ^ p) i ≡ digit x i
  put_other x zero zero z ne = absurd (ne refl)
  put_other x zero (suc i) z ne =
      let h : (x + b * 1) / 2 ≡ x / 2 = (let l = digit_zero x in omega arith) in
      digit-suc (x + b * 1) i ∙ ap (λ (y : ℕ). digit y i) h ∙ sym (digit-suc x i)
  put_other x (suc p) zero z ne =
      digit_zero (x + b * 2 ^ suc p) ∙ (let e = weight_suc b p in omega arith) ∙ sym (digit_zero x)
  put_other x (suc p) (suc i) z ne =
      digit-suc (x + b * 2 ^ suc p) i ∙ ap (λ (y : ℕ). digit y i) (half-put x p) ∙ put_other (x / 2) p i (sym (digit-suc x p) ∙ z) (λ e. ne (ap suc e)) ∙ sym (digit-suc x i)

  pub put_below : (n x p : ℕ) → p < n → x < 2 ^ n → digit x p ≡ 0 → x + b * 2 ^ p < 2 ^ n
  put_below zero x p h l z = absurd (omega arith)
  put_below (suc n) x zero h l z = let e = digit_zero x in omega arith
  put_below (suc n) x (suc p) h l z =
      let r = put_below n (x / 2) p (omega arith) (omega arith) (sym (digit-suc x p) ∙ z) in
      let e = half-put x p in
      omega arith

pub unit_same : (p : ℕ) → digit (2 ^ p) p ≡ 1
unit_same p = let e : 0 + 1 * 2 ^ p ≡ 2 ^ p = omega arith in rw e at (put_same 1 (omega arith) 0 p (digit-none p))

pub unit_other : (p i : ℕ) → (i ≡ p → ⊥) → digit (2 ^ p) i ≡ 0
unit_other p i h = let e : 0 + 1 * 2 ^ p ≡ 2 ^ p = omega arith in (rw e at (put_other 1 (omega arith) 0 p i (digit-none p) h)) ∙ digit-none i

differ_lt : (y z : ℕ) → y < 2 → z < 2 → differ y z < 2
differ_lt zero z hy hz = hz
differ_lt (suc y) zero hy hz = hy
differ_lt (suc zero) (suc z) hy hz = omega arith
differ_lt (suc (suc y)) (suc z) hy hz = omega arith

pub xor-half : (a b : ℕ) → bit_xor a b / 2 ≡ bit_xor (a / 2) (b / 2)
xor-half a b = omega (arith, xor_step a b, differ_lt (a % 2) (b % 2) (omega arith) (omega arith))

pub xor_low : (a b : ℕ) → bit_xor a b % 2 ≡ differ (a % 2) (b % 2)
xor_low a b = omega (arith, xor_step a b, differ_lt (a % 2) (b % 2) (omega arith) (omega arith))

pub beyond_no : (n x : ℕ) → x < 2 ^ n → beyond n x ≡ false
unfolding beyond
beyond_no n x h = lt-leb (2 ^ n) x h

pub no_beyond : (n x : ℕ) → beyond n x ≡ false → x < 2 ^ n
unfolding beyond
no_beyond n x t = leb-false (2 ^ n) x t

pub beyond_quotient : (n x : ℕ) → ltb 0 (x / 2 ^ n) ≡ beyond n x
unfolding beyond
beyond_quotient n x = go (leb (2 ^ n) x) refl
  where
    go : (b : Bool) → leb (2 ^ n) x ≡ b → ltb 0 (x / 2 ^ n) ≡ b
    go true e = lt-ltb 0 (x / 2 ^ n) ((le-div_iff_mul-le (pow_pos n)).1 (let h = leb-true (2 ^ n) x e in omega arith))
    go false e = le-ltb 0 (x / 2 ^ n) (rw (div-eq_of_lt (leb-false (2 ^ n) x e)) (omega arith))

pub beyond_wide : (w n x : ℕ) → w ≤ n → x < 2 ^ w → beyond n x ≡ false
beyond_wide w n x h l = beyond_no n x (let p : 2 ^ w ≤ 2 ^ n = pow_mono h in omega arith)

pub one_shifted : (k : ℕ) → k < 64 → 1 * 2 ^ k % 2 ^ 64 ≡ 2 ^ k
one_shifted k h =
    let p : 2 ^ k ≤ 2 ^ 63 = pow_mono {i = k} {j = 63} (omega arith) in
    omega arith
