-- The number that digits say (`digits`), and when a number is out of form (`number`).
--     digits_go, digits-none, digits_end     of a loop that goes up: one digit more, a byte that is none, and the end
--     below_next, digits-fit                 the number so far is below a power of the base, and fits a word
--     zero_leads, no_zero_leads              whether a 0 stands before other bytes
--     number-length, number_zero, number_digits     a number, by its length and by a leading zero
-- Assumes nothing.
use Rattle.std.specs.Prelude.{None, Some}
use mathlib.Core.Bool.{true, false}
use mathlib.Core.Logic.{◌⊎◌, inl, inr}
use mathlib.Core.Path.{◌≡◌, refl}
use mathlib.Core.List.{List, [], ◌∷◌}
use Prim.Native.Nat.{ℕ, ◌+◌, ◌*◌, ◌^◌, ◌<◌, ◌≤◌}
use native.Mathlib.Nat.{pow-suc, pow-le-pow_right}
use native.Mathlib.Numerals.{add-one}
use native.Mathlib.Omega.{arith}
use borrow.Author.Tests.{lt-ltb, le-ltb, eq-eqb, ne_eqb}
use lib.Arith.{digits_lt}
use lib.ListN.{length, get_or, drop, drop_of_length-le}
use lib.Seq.{drop-cons}
use Rattle.words_bounded.specs.Bounded.{within}
use Rattle.text_numbers.specs.Numbers.{worth, digits, leading_zero, number}

module _ (base v : ℕ) (l : List ℕ) (i : ℕ) where
  pub digits_go : i < length l → worth (get_or l i 0) < base → digits base v (drop i l) ≡ digits base (v * base + worth (get_or l i 0)) (drop (i + 1) l)
  unfolding digits
  digits_go h t = rw (drop-cons l i 0 h, lt-ltb _ _ t, digits, add-one)

  pub digits-none : i < length l → base ≤ worth (get_or l i 0) → digits base v (drop i l) ≡ None
  unfolding digits
  digits-none h t = rw (drop-cons l i 0 h, le-ltb _ _ t, digits)

  pub digits_end : length l ≤ i → digits base v (drop i l) ≡ Some v
  unfolding digits
  digits_end h = rw (drop_of_length-le l h)

-- One digit more stays below the next power of the base.
pub below_next : (base v d i : ℕ) → v < base ^ i → d < base → v * base + d < base ^ (i + 1)
below_next base v d i p q = rw (add-one, pow-suc) (digits_lt p q)

pub digits-fit : (base v d i n : ℕ) → 1 ≤ base → base ^ n ≤ 2 ^ 64 → i + 1 ≤ n → v < base ^ i → d < base → v * base + d < 2 ^ 64
digits-fit base v d i n b m h p q = omega (arith, below_next base v d i p q, pow-le-pow_right b h)

pub zero_leads : (l : List ℕ) → 1 < length l → get_or l 0 0 ≡ 48 → leading_zero l ≡ true
unfolding leading_zero
zero_leads [] h e = absurd (omega arith)
zero_leads (b ∷ []) h e = absurd (omega arith)
zero_leads (b ∷ c ∷ l) h e = eq-eqb b 48 e

pub no_zero_leads : (l : List ℕ) → (length l ≤ 1) ⊎ (get_or l 0 0 ≡ 48 → ⊥) → leading_zero l ≡ false
unfolding leading_zero
no_zero_leads [] w = refl
no_zero_leads (b ∷ []) w = refl
no_zero_leads (b ∷ c ∷ l) (inl h) = absurd (omega arith)
no_zero_leads (b ∷ c ∷ l) (inr e) = ne_eqb b 48 e

module _ (base most : ℕ) (l : List ℕ) where
  pub number-length : within 1 most (length l) ≡ false → number base most l ≡ None
  unfolding number
  number-length e = rw (e, number)

  pub number_zero : within 1 most (length l) ≡ true → leading_zero l ≡ true → number base most l ≡ None
  unfolding number
  number_zero e z = rw (e, z, number)

  pub number_digits : within 1 most (length l) ≡ true → leading_zero l ≡ false → number base most l ≡ digits base 0 l
  unfolding number
  number_digits e z = rw (e, z, number)
