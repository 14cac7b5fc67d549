-- Laws of parity: `odd` is below 2, symmetric, and linear in the state and in the mask.
--     odd_lt, odd_comm, odd_zero_l, odd_zero_r     below 2, symmetric, 0 where nothing is read
--     odd_low       the lowest cell, and the rest
--     odd-xor       linear in the mask
--     xor-odd       linear in the state
--     odd_mod       cells beyond the mask count for nothing
-- Assumes nothing.
use mathlib.Core.Path.{◌≡◌, refl, sym, ap, ap₂, ◌∙◌}
use Prim.Native.Nat.{ℕ, zero, suc, ◌+◌, ◌/◌, ◌%◌, ◌^◌, ◌<◌, min}
use native.Mathlib.Nat.{mod-eq_of_lt, lt_of_le_of_lt, mod-add-mod, add-mod-mod, min-zero}
use native.Mathlib.Omega.{arith}
use lib.Arith.{bin_ind}
use lib.Bits.{bit_and, bit_xor, differ, and_step, and_comm, and_mod, and_le_r}
use lib.Count.{ones, ones_step}
use Rattle.words_gf2.specs.Words.{odd}
use Rattle.words_gf2.proofs.Digits.{xor-half, xor_low}

pub odd_low : (s m : ℕ) → odd s m ≡ (min (s % 2) (m % 2) + odd (s / 2) (m / 2)) % 2
unfolding odd
odd_low s m =
    let low : min (s % 2) (m % 2) < 2 = omega arith in
    let e = and_step s m in
    let h : bit_and s m / 2 ≡ bit_and (s / 2) (m / 2) = omega arith in
    let l : bit_and s m % 2 ≡ min (s % 2) (m % 2) = omega arith in
    let o = ones_step (bit_and s m) in
    let oh : ones (bit_and s m / 2) ≡ ones (bit_and (s / 2) (m / 2)) = ap ones h in
    omega arith

pub odd_lt : (s m : ℕ) → odd s m < 2
unfolding odd
odd_lt s m = omega arith

pub odd_zero_l : (m : ℕ) → odd 0 m ≡ 0
unfolding odd ones
odd_zero_l m = refl

odd_comm : (s m : ℕ) → odd s m ≡ odd m s
unfolding odd
odd_comm s m = ap (λ (x : ℕ). ones x % 2) (and_comm s m)

pub odd_zero_r : (s : ℕ) → odd s 0 ≡ 0
odd_zero_r s = odd_comm s 0 ∙ odd_zero_l s

-- one cell of two masks
cross : (x y z p q : ℕ) → x < 2 → y < 2 → z < 2 → (min x (differ y z) + (p + q) % 2) % 2 ≡ ((min x y + p) % 2 + (min x z + q) % 2) % 2
cross x zero zero p q hx hy hz = simp (add-mod-mod, mod-add-mod, min-zero) (omega arith)
cross x zero (suc zero) p q hx hy hz = simp (add-mod-mod, mod-add-mod, min-zero) (omega arith)
cross x zero (suc (suc z)) p q hx hy hz = absurd (omega arith)
cross x (suc zero) zero p q hx hy hz = simp (add-mod-mod, mod-add-mod, min-zero) (omega arith)
cross x (suc (suc y)) zero p q hx hy hz = absurd (omega arith)
cross x (suc zero) (suc zero) p q hx hy hz = simp (add-mod-mod, mod-add-mod, min-zero) (omega arith)
cross x (suc zero) (suc (suc z)) p q hx hy hz = absurd (omega arith)
cross x (suc (suc y)) (suc z) p q hx hy hz = absurd (omega arith)

pub odd-xor : (s a b : ℕ) → odd s (bit_xor a b) ≡ (odd s a + odd s b) % 2
odd-xor =
    bin_ind (λ (s : ℕ). (a b : ℕ) → odd s (bit_xor a b) ≡ (odd s a + odd s b) % 2)
    (λ a b. simp odd_zero_l)
    (λ s ih a b.
    odd_low s (bit_xor a b)
    ∙ ap₂ (λ (x y : ℕ). (min (s % 2) x + odd (s / 2) y) % 2) (xor_low a b) (xor-half a b)
    ∙ ap (λ (x : ℕ). (min (s % 2) (differ (a % 2) (b % 2)) + x) % 2) (ih (a / 2) (b / 2))
    ∙ cross (s % 2) (a % 2) (b % 2) (odd (s / 2) (a / 2)) (odd (s / 2) (b / 2)) (omega arith) (omega arith) (omega arith)
    ∙ ap₂ (λ (x y : ℕ). (x + y) % 2) (sym (odd_low s a)) (sym (odd_low s b)))

pub xor-odd : (s u m : ℕ) → odd (bit_xor s u) m ≡ (odd s m + odd u m) % 2
xor-odd s u m = odd_comm (bit_xor s u) m ∙ odd-xor m s u ∙ ap₂ (λ (x y : ℕ). (x + y) % 2) (odd_comm m s) (odd_comm m u)

pub odd_mod : (s m k : ℕ) → m < 2 ^ k → odd (s % 2 ^ k) m ≡ odd s m
unfolding odd
odd_mod s m k h =
    ap (λ (x : ℕ). ones x % 2)
    (ap (bit_and (s % 2 ^ k)) (sym (mod-eq_of_lt h)) ∙ sym (and_mod s m k) ∙ mod-eq_of_lt (lt_of_le_of_lt (and_le_r s m) h))
