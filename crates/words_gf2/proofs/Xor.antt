-- Laws of the sum of two words, cell by cell.
--     xor_assoc, xor_swap, xor_twice     the order of sums does not matter, and the same word twice is nothing
--     digit-xor          a digit of a sum
--     Highest v h        h is the highest cell of v that holds 1
--     highest_below      so v is below the next power of 2
--     highest_kept       a word below that cell added leaves it the highest
--     highest_rises      a sum with v is greater where the other word holds 0 there
-- Assumes nothing.
use mathlib.Core.Path.{◌≡◌, refl, sym, ap, ap₂, ◌∙◌}
use mathlib.Core.Logic.{⊎_elim}
use Prim.Native.Nat.{ℕ, zero, suc, ◌+◌, ◌*◌, ◌/◌, ◌%◌, ◌^◌, ◌≤◌, ◌<◌}
use native.Mathlib.Nat.{div-eq_of_lt, mod-add-mod, add-mod-mod, div-lt_iff_lt-mul}
use native.Mathlib.Omega.{arith}
use lib.Arith.{bin_ind}
use lib.Bits.{bit_xor, differ, xor_step, xor_comm, xor_self, xor_zero_l, xor_zero_r, xor_shr}
use lib.Pow.{pow_pos, shr_mono}
use Rattle.words_bounded.proofs.Tests.{lt_or_le}
use Rattle.words_gf2.specs.Words.{digit}
use Rattle.words_gf2.proofs.Digits.{xor-half, xor_low}

differ_mod : (x y : ℕ) → x < 2 → y < 2 → differ x y ≡ (x + y) % 2
differ_mod zero y hx hy = omega arith
differ_mod (suc x) zero hx hy = omega arith
differ_mod (suc zero) (suc zero) hx hy = refl
differ_mod (suc zero) (suc (suc y)) hx hy = absurd (omega arith)
differ_mod (suc (suc x)) (suc y) hx hy = absurd (omega arith)

differ_assoc : (x y z : ℕ) → x < 2 → y < 2 → z < 2 → differ (differ x y) z ≡ differ x (differ y z)
differ_assoc x y z hx hy hz =
    ap (λ (a : ℕ). differ a z) (differ_mod x y hx hy)
    ∙ differ_mod ((x + y) % 2) z (omega arith) hz
    ∙ simp (add-mod-mod, mod-add-mod) (omega arith)
    ∙ sym (differ_mod x ((y + z) % 2) hx (omega arith))
    ∙ sym (ap (differ x) (differ_mod y z hy hz))

pub xor_assoc : (a b c : ℕ) → bit_xor (bit_xor a b) c ≡ bit_xor a (bit_xor b c)
xor_assoc =
    bin_ind (λ (a : ℕ). (b c : ℕ) → bit_xor (bit_xor a b) c ≡ bit_xor a (bit_xor b c))
    (λ b c. simp xor_zero_l)
    (λ a ih b c.
    xor_step (bit_xor a b) c
    ∙ ap₂ (λ (x y : ℕ). bit_xor x (c / 2) * 2 + differ y (c % 2)) (xor-half a b) (xor_low a b)
    ∙ ap₂ (λ (x y : ℕ). x * 2 + y) (ih (b / 2) (c / 2)) (differ_assoc (a % 2) (b % 2) (c % 2) (omega arith) (omega arith) (omega arith))
    ∙ sym (ap₂ (λ (x y : ℕ). bit_xor (a / 2) x * 2 + differ (a % 2) y) (xor-half b c) (xor_low b c))
    ∙ sym (xor_step a (bit_xor b c)))

pub xor_swap : (a b c : ℕ) → bit_xor (bit_xor a b) c ≡ bit_xor (bit_xor a c) b
xor_swap a b c = xor_assoc a b c ∙ ap (bit_xor a) (xor_comm b c) ∙ sym (xor_assoc a c b)

pub xor_twice : (a b : ℕ) → bit_xor (bit_xor a b) b ≡ a
xor_twice a b = xor_assoc a b b ∙ ap (bit_xor a) (xor_self b) ∙ xor_zero_r a

pub digit-xor : (a b i : ℕ) → digit (bit_xor a b) i ≡ (digit a i + digit b i) % 2
unfolding digit
digit-xor a b i =
    ap (λ (x : ℕ). x % 2) (xor_shr a b i) ∙ xor_low (a / 2 ^ i) (b / 2 ^ i) ∙ differ_mod (a / 2 ^ i % 2) (b / 2 ^ i % 2) (omega arith) (omega arith)

-- ---- the highest cell that holds 1

abbrev pub Highest : ℕ → ℕ → Type 0
Highest v h = v / 2 ^ h ≡ 1

pub highest_below : (v h : ℕ) → Highest v h → v < 2 ^ suc h
highest_below v h e = omega (arith, (div-lt_iff_lt-mul {x = v} {y = 2} (pow_pos h)).0 (omega arith))

pub highest_kept : (w p h : ℕ) → Highest w h → p < 2 ^ h → Highest (bit_xor w p) h
highest_kept w p h e l = xor_shr w p h ∙ rw (e, div-eq_of_lt l)

even_flip : (e : ℕ) → e % 2 ≡ 0 → bit_xor e 1 ≡ suc e
even_flip e z = xor_step e 1 ∙ rw (z, xor_zero_r) (omega arith)

pub highest_rises : (x v h : ℕ) → Highest v h → digit x h ≡ 0 → x ≤ bit_xor x v
unfolding digit
highest_rises x v h e z =
    let q : bit_xor x v / 2 ^ h ≡ suc (x / 2 ^ h) = xor_shr x v h ∙ rw e (even_flip (x / 2 ^ h) z) in
    ⊎_elim (λ l. absurd (let g : bit_xor x v / 2 ^ h ≤ x / 2 ^ h = shr_mono h (omega arith) in omega arith)) (λ g. g) (lt_or_le (bit_xor x v) x)
