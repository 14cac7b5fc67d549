-- The space of all states: its vectors are the unit vectors.
--     units_sound, units_complete     its members are the states of so many cells
--     units_rising                    0 is the lowest
--     units-next, units-take          one vector more; the first of them
-- Assumes nothing.
use mathlib.Core.Path.{◌≡◌, refl, sym, ap, ◌∙◌, subst}
use mathlib.Core.Logic.{inl, inr}
use mathlib.Core.List.{List, [], ◌∷◌, ◌++◌}
use Prim.Native.Nat.{ℕ, zero, suc, ◌+◌, ◌*◌, ◌/◌, ◌%◌, ◌^◌, ◌≤◌, ◌<◌}
use native.Mathlib.Nat.{zero-lt-suc, mod-eq_of_lt, mod-lt}
use native.Mathlib.Numerals.{add-one}
use native.Mathlib.Omega.{arith}
use lib.Arith.{mod-mul}
use lib.Bits.{bit_xor, xor_lt, xor_shifted, xor_comm}
use lib.ListN.{length, set, take}
use lib.Seq.{take-suc-set}
use lib.Pow.{pow_pos, pow-lt, shl-shr}
use Rattle.words_gf2.specs.Words.{digit}
use Rattle.words_gf2.proofs.Digits.{digit_lt, digit-none, unit_other, one_shifted}
use Rattle.search_space.specs.Space.{units, ZeroAt, Rising, none, more}
use Rattle.search_space.proofs.Members.{Among}

-- one more digit of a remainder
mod_more : (x h : ℕ) → x % 2 ^ suc h ≡ digit x h * 2 ^ h + x % 2 ^ h
unfolding digit
mod_more x h = let e : 2 ^ suc h ≡ 2 * 2 ^ h = omega arith in rw e (mod-mul x (zero-lt-suc 1) (pow_pos h))

units_more : (n h : ℕ) → units h (suc n) ≡ units h n ++ (2 ^ (h + n) ∷ [])
unfolding units
units_more zero h = let e : h + 0 ≡ h = omega arith in rw e
units_more (suc n) h = let e : h + suc n ≡ suc h + n = omega arith in rw e (ap (λ (t : List ℕ). 2 ^ h ∷ t) (units_more n (suc h)))

pub units-next : (vs : List ℕ) (i : ℕ) → i < length vs → i < 64 → take i vs ≡ units 0 i → take (i + 1) (set vs i (1 * 2 ^ i % 2 ^ 64)) ≡ units 0 (i + 1)
units-next vs i h k e =
    rw (add-one i, take-suc-set vs i (1 * 2 ^ i % 2 ^ 64) h, e, units_more i 0) (ap (λ (t : ℕ). units 0 i ++ (t ∷ [])) (one_shifted i k ∙ ap (λ (n : ℕ). 2 ^ n) (omega arith)))

pub units-take : (m n h : ℕ) → m ≤ n → take m (units h n) ≡ units h m
unfolding units
units-take zero n h l = refl
units-take (suc m) zero h l = absurd (omega arith)
units-take (suc m) (suc n) h l = ap (λ (t : List ℕ). 2 ^ h ∷ t) (units-take m n (suc h) (omega arith))

pub units_sound : (n h x s : ℕ) → x < 2 ^ h → Among x (units h n) s → s < 2 ^ (h + n)
unfolding Among units
units_sound zero h x s l a = let e : h + 0 ≡ h = omega arith in rw (e, a) l
units_sound (suc n) h x s l (inl a) =
    let e : h + suc n ≡ suc h + n = omega arith in rw e (units_sound n (suc h) x s (omega arith) a)
units_sound (suc n) h x s l (inr a) =
    let e : h + suc n ≡ suc h + n = omega arith in
    rw e (units_sound n (suc h) (bit_xor x (2 ^ h)) s (xor_lt (suc h) x (2 ^ h) (omega arith) (pow-lt {i = h} {j = suc h} (omega arith))) a)

pub units_complete : (n h s : ℕ) → s < 2 ^ (h + n) → Among (s % 2 ^ h) (units h n) s
unfolding Among units
units_complete zero h s l = let e : h + 0 ≡ h = omega arith in sym (mod-eq_of_lt (rw e at l))
units_complete (suc n) h s l =
    let e : h + suc n ≡ suc h + n = omega arith in
    pick (digit s h) (digit_lt s h) (mod_more s h) (units_complete n (suc h) s (rw e at l))
  where
    pick : (d : ℕ) → d < 2 → s % 2 ^ suc h ≡ d * 2 ^ h + s % 2 ^ h → Among (s % 2 ^ suc h) (units (suc h) n) s → Among (s % 2 ^ h) (units h (suc n)) s
    pick zero g q a = inl (subst (λ (t : ℕ). Among t (units (suc h) n) s) (q ∙ omega arith) a)
    pick (suc zero) g q a =
        inr (subst (λ (t : ℕ). Among t (units (suc h) n) s)
        (q ∙ sym (xor_shifted 1 h (s % 2 ^ h) (mod-lt s (pow_pos h))) ∙ xor_comm (1 * 2 ^ h) (s % 2 ^ h) ∙ ap (bit_xor (s % 2 ^ h)) (omega arith)) a)
    pick (suc (suc d)) g q a = absurd (omega arith)

zero_units : (h l n : ℕ) → h < l → ZeroAt h (units l n)
unfolding units
zero_units h l zero g k r = absurd (omega arith)
zero_units h l (suc n) g zero r = unit_other l h (omega arith)
zero_units h l (suc n) g (suc k) r = zero_units h (suc l) n (omega arith) k (omega arith)

pub units_rising : (n l : ℕ) → Rising 0 l (units l n)
unfolding units
units_rising zero l = none
units_rising (suc n) l =
    more {l = l} l (omega arith) (let e : 2 ^ l ≡ 1 * 2 ^ l = omega arith in ap (λ (t : ℕ). t / 2 ^ l) e ∙ shl-shr 1 l) (digit-none l) (zero_units l (suc l) n (omega arith)) (units_rising n (suc l))
