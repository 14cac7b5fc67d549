-- Laws of the step.
--     step_below                 a step stays below 2 ^ cells
--     step_first, step_other     cell 0 gets the feedback, each other cell what the cell one lower held: document 01's rule, cell by cell
--     pull_law, pulls_law        what a mask reads after the steps is what the pulled-back mask reads before them
--     step_zero                  the state 0 steps to itself
--     pull_below                 a mask pulled back stays below 2 ^ cells
--     step_fits, step_narrow, step_wide     the step on a 64-bit word, of fewer than 64 cells and of 64
-- Assumes nothing.
use mathlib.Core.Path.{◌≡◌, refl, sym, ap, ap₂, ◌∙◌}
use Prim.Native.Nat.{ℕ, zero, suc, ◌+◌, ◌-◌, ◌*◌, ◌/◌, ◌%◌, ◌^◌, ◌≤◌, ◌<◌, min}
use native.Mathlib.Nat.{mod-lt, zero-lt-suc}
use native.Mathlib.Omega.{arith}
use lib.Arith.{mod-mul}
use lib.Pow.{pow_pos, mod-mod-pow}
use lib.Bits.{xor_lt}
use Rattle.words_gf2.specs.Words.{digit, odd}
use Rattle.words_gf2.proofs.Digits.{digit_zero, digit-suc, digit_mod}
use Rattle.words_gf2.proofs.Parity.{odd_low, odd_lt, odd_zero_l, odd_zero_r, odd-xor, odd_mod}
use Rattle.machine_register.specs.Register.{step, steps, step_of, pull, pulls}
use Rattle.machine_register.specs.declared.Register.{Register}

-- the state shifted up, and the feedback
shift_mod : (s b k : ℕ) → b < 2 → (s * 2 + b) % 2 ^ suc k ≡ s % 2 ^ k * 2 + b
shift_mod s b k h =
    let q = mod-mul (s * 2 + b) (pow_pos k) (zero-lt-suc 1) in
    let p : 2 ^ suc k ≡ 2 ^ k * 2 = omega arith in
    let d : (s * 2 + b) / 2 ≡ s = omega arith in
    rw p (q ∙ rw d (omega arith))

pub step_below : (cells taps s : ℕ) → step cells taps s < 2 ^ cells
unfolding step
step_below cells taps s = mod-lt (s * 2 + odd s taps) (pow_pos cells)

pub step_first : (cells taps s : ℕ) → 0 < cells → digit (step cells taps s) 0 ≡ odd s taps
unfolding step
step_first cells taps s h =
    digit_mod (s * 2 + odd s taps) 0 cells h ∙ digit_zero (s * 2 + odd s taps) ∙ (let l = odd_lt s taps in omega arith)

pub step_other : (cells taps s i : ℕ) → suc i < cells → digit (step cells taps s) (suc i) ≡ digit s i
unfolding step
step_other cells taps s i h =
    let d : (s * 2 + odd s taps) / 2 ≡ s = (let l = odd_lt s taps in omega arith) in
    digit_mod (s * 2 + odd s taps) (suc i) cells h ∙ digit-suc (s * 2 + odd s taps) i ∙ ap (λ (x : ℕ). digit x i) d

pub step_zero : (cells taps : ℕ) → step cells taps 0 ≡ 0
unfolding step
step_zero cells taps =
    let e : 0 * 2 + odd 0 taps ≡ 0 = rw odd_zero_l in
    rw e (omega (arith, mod-lt 0 (pow_pos cells), native.Mathlib.Nat.mod-le 0 (2 ^ cells)))

-- the mask's lowest cell reads the feedback, its other cells read one cell lower
pub pull_law : (cells taps s m : ℕ) → 0 < cells → m < 2 ^ cells → odd (step cells taps s) m ≡ odd s (pull taps m)
unfolding step pull
pull_law zero taps s m h l = absurd (omega arith)
pull_law (suc k) taps s m h l =
    let n : ℕ = (s * 2 + odd s taps) % 2 ^ suc k in
    let b = odd_lt s taps in
    let d = shift_mod s (odd s taps) k b in
    let nh : n / 2 ≡ s % 2 ^ k = omega arith in
    let nl : n % 2 ≡ odd s taps = omega arith in
    let mh : m / 2 < 2 ^ k = omega arith in
    odd_low n m
    ∙ ap₂ (λ (x y : ℕ). (min x (m % 2) + odd y (m / 2)) % 2) nl nh
    ∙ ap (λ (x : ℕ). (min (odd s taps) (m % 2) + x) % 2) (odd_mod s (m / 2) k mh)
    ∙ pick (m % 2) (omega arith)
    ∙ sym (odd-xor s (m / 2) (taps * (m % 2)))
  where
    pick : (d : ℕ) → d < 2 → (min (odd s taps) d + odd s (m / 2)) % 2 ≡ (odd s (m / 2) + odd s (taps * d)) % 2
    pick zero l = let z : taps * 0 ≡ 0 = omega arith in rw z (rw odd_zero_r (omega arith))
    pick (suc zero) l = let z : taps * 1 ≡ taps = omega arith in rw z (omega (arith, odd_lt s taps))
    pick (suc (suc d)) l = absurd (omega arith)

pull_below : (cells taps m : ℕ) → taps < 2 ^ cells → m < 2 ^ cells → pull taps m < 2 ^ cells
unfolding pull
pull_below cells taps m ht hm = xor_lt cells (m / 2) (taps * (m % 2)) (omega arith) (pick (m % 2) (omega arith))
  where
    pick : (d : ℕ) → d < 2 → taps * d < 2 ^ cells
    pick zero l = let z : taps * 0 ≡ 0 = omega arith in omega arith
    pick (suc zero) l = let z : taps * 1 ≡ taps = omega arith in omega arith
    pick (suc (suc d)) l = absurd (omega arith)

pub pulls_law : (cells taps t s m : ℕ) → 0 < cells → taps < 2 ^ cells → m < 2 ^ cells → odd (steps cells taps t s) m ≡ odd s (pulls taps t m)
unfolding steps pulls
pulls_law cells taps zero s m h ht hm = refl
pulls_law cells taps (suc t) s m h ht hm =
    pull_law cells taps (steps cells taps t s) m h hm ∙ pulls_law cells taps t s (pull taps m) h ht (pull_below cells taps m ht hm)

-- the step in a word of 64 bits
pub step_fits : (s taps : ℕ) → s % 9223372036854775808 * 2 + odd s taps < 2 ^ 64
step_fits s taps = omega (arith, odd_lt s taps)

word : (s taps : ℕ) → s % 9223372036854775808 * 2 + odd s taps ≡ (s * 2 + odd s taps) % 2 ^ 64
word s taps = sym (shift_mod s (odd s taps) 63 (odd_lt s taps))

pub step_wide : (r : Register) (s : ℕ) → 64 ≤ r.cells → s % 9223372036854775808 * 2 + odd s r.taps ≡ step_of r s
unfolding step_of step
step_wide r s h = let e : min 64 r.cells ≡ 64 = omega arith in rw e (word s r.taps)

pub step_narrow : (r : Register) (s : ℕ) → r.cells < 64 → (s % 9223372036854775808 * 2 + odd s r.taps) % 2 ^ r.cells ≡ step_of r s
unfolding step_of step
step_narrow r s h =
    let n : ℕ = r.cells in
    let e : min 64 n ≡ n = omega arith in
    let j : ℕ = 64 - n in
    let w : 64 ≡ j + n = omega arith in
    ap (λ (x : ℕ). x % 2 ^ n) (word s r.taps ∙ ap (λ (k : ℕ). (s * 2 + odd s r.taps) % 2 ^ k) w) ∙ mod-mod-pow (s * 2 + odd s r.taps) j n ∙ ap (λ (k : ℕ). (s * 2 + odd s r.taps) % 2 ^ k) (sym e)
