-- Numbers have one spelling each (`number`, `numeral`), for every base up to 16. Without a leading 0 the digits so far say no 0; one digit more makes a number from the base on, whose numeral ends in that digit.
--     glyph-worth       a byte that is a digit is the one that is written for it
--     worth-none, worth_some      bytes that are no digit, and those that are no 0
--     digits-front      digits that say a number, by their first
--     number_inside     what is read as a number: its length, no leading 0, and its digits
--     digit_behind, digits_spelt      one digit behind a number that is no 0, and more of them
--     first_spelt, whole_spelt        the first digit, and all
--     number_spelt      what is read as a number is its numeral
-- Assumes nothing.
use Rattle.std.specs.Prelude.{None, Some}
use mathlib.Core.Bool.{Bool, true, false}
use mathlib.Core.Logic.{⊎_elim}
use mathlib.Core.Path.{◌≡◌, refl, sym, ap, ◌∙◌}
use mathlib.Core.List.{List, [], ◌∷◌, ◌++◌, append-nil, append_assoc}
use Prim.Native.Nat.{ℕ, suc, ◌+◌, ◌-◌, ◌*◌, ◌≤◌, ◌<◌}
use native.Mathlib.Nat.{zero-mul, zero-add, mul-le-mul_right}
use native.Mathlib.Omega.{arith}
use borrow.Author.Tests.{ltb-true, eqb-false}
use lib.Arith.{digits_div, digits_mod}
use lib.Dec.{ltb}
use lib.ListN.{length}
use Rattle.words_bounded.specs.Bounded.{within}
use Rattle.words_bounded.proofs.Tests.{lt_or_le, within_yes}
use Rattle.text_numbers.specs.Numbers.{worth, digits, leading_zero, number}
use Rattle.text_numbers.proofs.Numerals.{number-length, number_zero, number_digits}
use Rattle.text_write_numbers.specs.Numerals.{glyph, last_digits, numeral}
use Rattle.text_readback.proofs.Numerals.{glyph-low, glyph-high, worth-low, worth-high, digit_first, digits_more}

nothing_value : (v : ℕ) → None ≡ Some v → ⊥
nothing_value v e = let z : ◌≡◌ {A = ℕ} 0 1 = cc in omega arith

worth-none : (b : ℕ) → within 48 57 b ≡ false → within 97 102 b ≡ false → worth b ≡ 16
unfolding worth
worth-none b e f = rw (e, worth, f, worth)

glyph-worth : (b : ℕ) → worth b < 16 → glyph (worth b) ≡ b
glyph-worth b h = go (within 48 57 b) refl (within 97 102 b) refl
  where
    go : (s : Bool) → within 48 57 b ≡ s → (t : Bool) → within 97 102 b ≡ t → glyph (worth b) ≡ b
    go true e t f = let w = within_yes 48 57 b e in rw (worth-low b w.0 w.1, glyph-low (b - 48) (omega arith)) (omega arith)
    go false e true f = let w = within_yes 97 102 b f in rw (worth-high b w.0 w.1, glyph-high (b - 87) (omega arith)) (omega arith)
    go false e false f = absurd (omega (arith, worth-none b e f))

worth_some : (b : ℕ) → worth b < 16 → (b ≡ 48 → ⊥) → 1 ≤ worth b
worth_some b h n = ⊎_elim (λ z. absurd (n (omega (arith, glyph-low (worth b) (omega arith), glyph-worth b h)))) (λ s. s) (lt_or_le (worth b) 1)

module _ (base : ℕ) where
  digits-front : (v w b : ℕ) (l : List ℕ) → digits base v (b ∷ l) ≡ Some w → (worth b < base) × (digits base (v * base + worth b) l ≡ Some w)
  unfolding digits
  digits-front v w b l e = go (ltb (worth b) base) refl e
    where
      go : (t : Bool) → ltb (worth b) base ≡ t → elim t [ true ↦ digits base (v * base + worth b) l | false ↦ None ] ≡ Some w → (worth b < base) × (digits base (v * base + worth b) l ≡ Some w)
      go true t e = (ltb-true (worth b) base t, e)
      go false t e = absurd (nothing_value w e)

  number_inside : (most : ℕ) (l : List ℕ) (v : ℕ) → number base most l ≡ Some v → (within 1 most (length l) ≡ true) × (leading_zero l ≡ false) × (digits base 0 l ≡ Some v)
  number_inside most l v e = go (within 1 most (length l)) refl (leading_zero l) refl
    where
      go : (s : Bool) → within 1 most (length l) ≡ s → (t : Bool) → leading_zero l ≡ t → (within 1 most (length l) ≡ true) × (leading_zero l ≡ false) × (digits base 0 l ≡ Some v)
      go false s t z = absurd (nothing_value v (sym (number-length base most l s) ∙ e))
      go true s true z = absurd (nothing_value v (sym (number_zero base most l s z) ∙ e))
      go true s false z = (s, z, sym (number_digits base most l s z) ∙ e)

  module _ (few : base ≤ 16) where
    digit_behind : (d v b : ℕ) → 1 ≤ v → worth b < base → last_digits (suc d) base (v * base + worth b) ≡ last_digits d base v ++ (b ∷ [])
    digit_behind d v b s h =
        digits_more d base (v * base + worth b) (omega (arith, mul-le-mul_right base s))
        ∙ rw (digits_div v h, digits_mod v h, glyph-worth b (omega arith))

    digits_spelt : (l : List ℕ) (d n v w : ℕ) → d + length l ≡ n → 1 ≤ v → digits base v l ≡ Some w → last_digits n base w ≡ last_digits d base v ++ l
    unfolding digits
    digits_spelt [] d n v w q s e = let m : n ≡ d = omega arith in let u : w ≡ v = cc in rw (m, u) (sym (append-nil (last_digits d base v)))
    digits_spelt (b ∷ l) d n v w q s e =
        let f = digits-front v w b l e in
        digits_spelt l (suc d) n (v * base + worth b) w (omega arith) (omega (arith, f.0, mul-le-mul_right base s)) f.1
        ∙ ap (λ x. x ++ l) (digit_behind d v b s f.0)
        ∙ append_assoc (last_digits d base v) (b ∷ []) l

    first_spelt : (d b : ℕ) → worth b < base → last_digits (suc d) base (0 * base + worth b) ≡ b ∷ []
    first_spelt d b h = rw (zero-mul, zero-add) (digit_first d base (worth b) h ∙ ap (λ x. x ∷ []) (glyph-worth b (omega arith)))

    whole_spelt : (l : List ℕ) (v : ℕ) → 1 ≤ length l → length l ≤ 20 → leading_zero l ≡ false → digits base 0 l ≡ Some v → last_digits 20 base v ≡ l
    unfolding digits leading_zero
    whole_spelt [] v m n z e = absurd (omega arith)
    whole_spelt (b ∷ []) v m n z e = let f = digits-front 0 v b [] e in let u : v ≡ 0 * base + worth b = cc in rw u (first_spelt 19 b f.0)
    whole_spelt (b ∷ c ∷ l) v m n z e =
        let f = digits-front 0 v b (c ∷ l) e in
        let g = worth_some b (omega (arith, f.0)) (eqb-false b 48 z) in
        digits_spelt (c ∷ l) (suc (18 - length l)) 20 (0 * base + worth b) v (omega arith) (omega arith) f.1
        ∙ ap (λ x. x ++ (c ∷ l)) (first_spelt (18 - length l) b f.0)

    pub number_spelt : (most : ℕ) → most ≤ 20 → (l : List ℕ) (v : ℕ) → number base most l ≡ Some v → numeral base v ≡ l
    unfolding numeral
    number_spelt most h l v e =
        let i = number_inside most l v e in
        let w = within_yes 1 most (length l) i.0 in
        whole_spelt l v w.0 (omega arith) i.1 i.2
