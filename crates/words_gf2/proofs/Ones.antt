-- The number of cells of a word that hold 1.
--     ones_put      a cell set that held 0 is one more
--     ones_full     a word of n cells with n ones holds 1 in each
--     ones_all      a word that holds 1 in each of n cells has n ones
--     full-digit    the word of n ones holds 1 in each of n cells
--     full_word     and it is the only one of n cells that does
-- Assumes nothing.
use mathlib.Core.Path.{◌≡◌, sym, ◌∙◌}
use mathlib.Core.Logic.{⊎_elim}
use Prim.Native.Nat.{ℕ, zero, suc, ◌+◌, ◌-◌, ◌/◌, ◌^◌, ◌≤◌, ◌<◌}
use native.Mathlib.Omega.{arith}
use lib.Count.{ones, ones_step, ones-le}
use lib.Pow.{pow_pos}
use Rattle.words_bounded.proofs.Tests.{lt_or_le}
use Rattle.words_gf2.specs.Words.{digit}
use Rattle.words_gf2.proofs.Digits.{digit_zero, digit-suc, digit_wide, words_equal}

pub ones_put : (x p : ℕ) → digit x p ≡ 0 → ones (x + 2 ^ p) ≡ suc (ones x)
ones_put x zero z =
    let e = digit_zero x in
    let h : (x + 1) / 2 ≡ x / 2 = omega arith in
    ones_step (x + 1) ∙ rw h (omega (arith, ones_step x))
ones_put x (suc p) z =
    let h : (x + 2 ^ suc p) / 2 ≡ x / 2 + 2 ^ p = omega arith in
    let r = ones_put (x / 2) p (sym (digit-suc x p) ∙ z) in
    ones_step (x + 2 ^ suc p) ∙ rw (h, r) (omega (arith, ones_step x))

pub ones_full : (n x : ℕ) → x < 2 ^ n → n ≤ ones x → (p : ℕ) → p < n → digit x p ≡ 1
ones_full zero x l f p h = absurd (omega arith)
ones_full (suc n) x l f zero h =
    let s = ones_step x in
    let m = ones-le n (x / 2) (omega arith) in
    digit_zero x ∙ omega arith
ones_full (suc n) x l f (suc p) h =
    let s = ones_step x in
    digit-suc x p ∙ ones_full n (x / 2) (omega arith) (omega arith) p (omega arith)

pub ones_all : (n x : ℕ) → ((p : ℕ) → p < n → digit x p ≡ 1) → n ≤ ones x
ones_all zero x all = omega arith
ones_all (suc n) x all =
    let e = digit_zero x in
    let one = all 0 (omega arith) in
    omega (arith, ones_step x, ones_all n (x / 2) (λ p h. sym (digit-suc x p) ∙ all (suc p) (omega arith)))

pub full-digit : (n p : ℕ) → p < n → digit (2 ^ n - 1) p ≡ 1
full-digit zero p h = absurd (omega arith)
full-digit (suc n) zero h = digit_zero (2 ^ suc n - 1) ∙ omega (arith, pow_pos n)
full-digit (suc n) (suc p) h =
    let e : (2 ^ suc n - 1) / 2 ≡ 2 ^ n - 1 = omega (arith, pow_pos n) in
    digit-suc (2 ^ suc n - 1) p ∙ rw e (full-digit n p (omega arith))

pub full_word : (n x : ℕ) → x < 2 ^ n → ((p : ℕ) → p < n → digit x p ≡ 1) → x ≡ 2 ^ n - 1
full_word n x l all = words_equal x (2 ^ n - 1) (λ i. ⊎_elim
    (λ h. all i h ∙ sym (full-digit n i h))
    (λ h. digit_wide n x i h l ∙ sym (digit_wide n (2 ^ n - 1) i h (omega (arith, pow_pos n))))
    (lt_or_le i n))
