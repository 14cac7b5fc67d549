-- The members of a space.
--     Among x vs s                 s is a member, by cases of the vectors
--     among_is, is_among           the same as the test
--     among_lowest                 x is a member
--     lowest_among                 and the lowest
--     zero_sum                     a cell that holds 0 in two words holds 0 in their sum
--     rising_add                   a vector below all highest cells added to x changes nothing of the rise
-- Assumes nothing.
use mathlib.Core.Path.{◌≡◌, refl}
use mathlib.Core.Logic.{◌⊎◌, inl, inr, ⊎_elim}
use mathlib.Core.Bool.{true}
use mathlib.Core.List.{List, [], ◌∷◌}
use Prim.Native.Nat.{ℕ, suc, ◌^◌, ◌≤◌, ◌<◌}
use native.Mathlib.Nat.{lt_of_lt_of_le}
use native.Mathlib.Omega.{arith}
use lib.Bits.{bit_xor}
use lib.Pow.{pow_mono}
use borrow.Author.Tests.{eqb-true, eq-eqb}
use Rattle.words_bounded.proofs.Tests.{either, or_right}
use Rattle.words_gf2.specs.Words.{digit}
use Rattle.words_gf2.proofs.Digits.{digit_wide}
use Rattle.words_gf2.proofs.Xor.{digit-xor, highest_below, highest_rises}
use Rattle.search_space.specs.Space.{among, Rising, none, more}

unfoldable pub Among : ℕ → List ℕ → ℕ → Type 0
Among x [] s = s ≡ x
Among x (v ∷ vs) s = Among x vs s ⊎ Among (bit_xor x v) vs s

pub among_is : (vs : List ℕ) (x s : ℕ) → among x vs s ≡ true → Among x vs s
unfolding among Among
among_is [] x s t = eqb-true s x t
among_is (v ∷ vs) x s t =
    ⊎_elim (λ a. inl (among_is vs x s a)) (λ b. inr (among_is vs (bit_xor x v) s b)) (either (among x vs s) (among (bit_xor x v) vs s) t)

pub is_among : (vs : List ℕ) (x s : ℕ) → Among x vs s → among x vs s ≡ true
unfolding among Among
is_among [] x s a = eq-eqb s x a
is_among (v ∷ vs) x s (inl a) = rw (is_among vs x s a)
is_among (v ∷ vs) x s (inr a) = or_right (among x vs s) (among (bit_xor x v) vs s) (is_among vs (bit_xor x v) s a)

pub among_lowest : (vs : List ℕ) (x : ℕ) → Among x vs x
unfolding Among
among_lowest [] x = refl
among_lowest (v ∷ vs) x = inl (among_lowest vs x)

pub zero_sum : (a b h : ℕ) → digit a h ≡ 0 → digit b h ≡ 0 → digit (bit_xor a b) h ≡ 0
zero_sum a b h p q = omega (arith, digit-xor a b h)

pub rising_add : {x l : ℕ} {vs : List ℕ} (v : ℕ) → v < 2 ^ l → Rising x l vs → Rising (bit_xor x v) l vs
rising_add v h none = none
rising_add {x} {l} v h (more t a e z o r) =
    more t a e (zero_sum x v t z (digit_wide l v t a h)) o (rising_add v (lt_of_lt_of_le h (pow_mono {i = l} {j = suc t} (omega arith))) r)

pub lowest_among : (vs : List ℕ) (x l s : ℕ) → Rising x l vs → Among x vs s → x ≤ s
unfolding Among
lowest_among [] x l s none a = omega arith
lowest_among (v ∷ vs) x l s (more h a e z o r) (inl m) = lowest_among vs x (suc h) s r m
lowest_among (v ∷ vs) x l s (more h a e z o r) (inr m) =
    omega (arith, highest_rises x v h e z, lowest_among vs (bit_xor x v) (suc h) s (rising_add v (highest_below v h e) r) m)
