-- Numbers are read back (`numeral`, `number`), for every base from 2 to 16.
--     glyph-low, glyph-high, glyph-above     the byte of a digit below 10, of one from 10 on, and of any
--     worth-low, worth-high, worth-glyph     what these bytes are worth; a digit that is written is worth what it was
--     digit_first, digits_more     the digits of a number below the base, and those of a greater one
--     digits_behind     what digits say with one behind them
--     rest_less         what is left before the last digit has one digit fewer
--     digits_some, digits_few     how many digits there are
--     digits_back       the digits of a number say it
--     first_counts, none_leads     no 0 stands before them
--     number_back       the numeral of a number is read as the number
-- Assumes nothing.
use Rattle.std.specs.Prelude.{None, Some}
use mathlib.Core.Bool.{Bool, true, false}
use mathlib.Core.Logic.{inl, inr, ⊎_elim}
use mathlib.Core.Path.{◌≡◌, ap, ◌∙◌}
use mathlib.Core.List.{List, [], ◌∷◌, ◌++◌}
use Prim.Native.Nat.{ℕ, zero, suc, ◌+◌, ◌-◌, ◌*◌, ◌/◌, ◌%◌, ◌^◌, ◌≤◌, ◌<◌}
use native.Mathlib.Nat.{zero-add, zero-mul, mod-lt, pow-zero, pow-le-pow_right, div-add-mod', le-div_iff_mul-le}
use native.Mathlib.Omega.{arith}
use borrow.Author.Tests.{lt-ltb, le-ltb}
use lib.Dec.{ltb}
use lib.ListN.{length, get_or, length-append, get_or-append}
use Rattle.words_bounded.proofs.Tests.{lt_or_le, above_within, within_holds}
use Rattle.text_numbers.specs.Numbers.{worth, digits, leading_zero, number}
use Rattle.text_numbers.proofs.Numerals.{no_zero_leads, number_digits}
use Rattle.text_write_numbers.specs.Numerals.{glyph, last_digits, numeral}
use Rattle.text_write_numbers.proofs.Digits.{digit_room, digit_less}

pub glyph-low : (d : ℕ) → d < 10 → glyph d ≡ d + 48
unfolding glyph
glyph-low d h = rw (lt-ltb d 10 h, glyph)

pub glyph-high : (d : ℕ) → 10 ≤ d → glyph d ≡ d + 87
unfolding glyph
glyph-high d h = rw (le-ltb d 10 h, glyph)

pub worth-low : (b : ℕ) → 48 ≤ b → b ≤ 57 → worth b ≡ b - 48
unfolding worth
worth-low b h g = rw (within_holds 48 57 b h g, worth)

pub worth-high : (b : ℕ) → 97 ≤ b → b ≤ 102 → worth b ≡ b - 87
unfolding worth
worth-high b h g = rw (above_within 48 57 b (omega arith), worth, within_holds 97 102 b h g, worth)

worth-glyph : (d : ℕ) → d < 16 → worth (glyph d) ≡ d
worth-glyph d h =
    ⊎_elim
    (λ l. rw (glyph-low d l, worth-low (d + 48) (omega arith) (omega arith)) (omega arith))
    (λ g. rw (glyph-high d g, worth-high (d + 87) (omega arith) (omega arith)) (omega arith))
    (lt_or_le d 10)

pub glyph-above : (d : ℕ) → d + 48 ≤ glyph d
glyph-above d = ⊎_elim (λ l. omega (arith, glyph-low d l)) (λ g. omega (arith, glyph-high d g)) (lt_or_le d 10)

module _ (d base n : ℕ) where
  pub digit_first : n < base → last_digits (suc d) base n ≡ glyph n ∷ []
  unfolding last_digits
  digit_first h = rw (lt-ltb n base h, last_digits)

  pub digits_more : base ≤ n → last_digits (suc d) base n ≡ last_digits d base (n / base) ++ (glyph (n % base) ∷ [])
  unfolding last_digits
  digits_more h = rw (le-ltb n base h, last_digits)

digits_behind : (base v w b : ℕ) (l : List ℕ) → digits base v l ≡ Some w → worth b < base → digits base v (l ++ (b ∷ [])) ≡ Some (w * base + worth b)
unfolding digits
digits_behind base v w b [] e h = let q : v ≡ w = cc in rw (lt-ltb (worth b) base h, digits, q)
digits_behind base v w b (a ∷ l) e h = go (ltb (worth a) base) e (digits_behind base (v * base + worth a) w b l)
  where
    go : (t : Bool) → elim t [ true ↦ digits base (v * base + worth a) l | false ↦ None ] ≡ Some w
        → (digits base (v * base + worth a) l ≡ Some w → worth b < base → digits base (v * base + worth a) (l ++ (b ∷ [])) ≡ Some (w * base + worth b))
        → elim t [ true ↦ digits base (v * base + worth a) (l ++ (b ∷ [])) | false ↦ None ] ≡ Some (w * base + worth b)
    go true e ih = ih e h
    go false e ih = cc

module _ (base : ℕ) (two : 2 ≤ base) where
  rest_less : (d n : ℕ) → n < base ^ suc d → n / base < base ^ d
  rest_less d n h = let e : suc d - 1 ≡ d = omega arith in rw e at (digit_less base n (suc d) (omega arith) (omega arith) h)

  digits_some : (d n : ℕ) → 1 ≤ d → 1 ≤ length (last_digits d base n)
  digits_some zero n h = absurd (omega arith)
  digits_some (suc d) n h = ⊎_elim (λ l. rw (digit_first d base n l) (omega arith)) (λ g. rw (digits_more d base n g) (simp length-append (omega arith))) (lt_or_le n base)

  digits_few : (d n most : ℕ) → 1 ≤ most → n < base ^ most → length (last_digits d base n) ≤ most
  unfolding last_digits
  digits_few zero n most m h = omega arith
  digits_few (suc d) n most m h =
      ⊎_elim
      (λ l. rw (digit_first d base n l) (omega arith))
      (λ g.
      let r = digit_room base n most g h two in
      let ih = digits_few d (n / base) (most - 1) (omega arith) (digit_less base n most (omega arith) (omega arith) h) in
      rw (digits_more d base n g) (simp length-append (omega arith)))
      (lt_or_le n base)

  module _ (few : base ≤ 16) where
    digits_back : (d n : ℕ) → n < base ^ d → digits base 0 (last_digits d base n) ≡ Some n
    unfolding last_digits digits
    digits_back zero n h = let z : 0 ≡ n = omega (arith, pow-zero base) in ap Some z
    digits_back (suc d) n h =
        ⊎_elim
        (λ l. rw (digit_first d base n l, worth-glyph n (omega arith), lt-ltb n base l, digits, worth-glyph n (omega arith), zero-mul, zero-add))
        (λ g.
        let ih = digits_back d (n / base) (rest_less d n h) in
        let m : n % base < base = mod-lt n (omega arith) in
        let w : worth (glyph (n % base)) ≡ n % base = worth-glyph (n % base) (omega arith) in
        let l : worth (glyph (n % base)) < base = omega arith in
        rw (digits_more d base n g) (digits_behind base 0 (n / base) (glyph (n % base)) (last_digits d base (n / base)) ih l ∙ rw (w, div-add-mod')))
        (lt_or_le n base)

    first_counts : (d n : ℕ) → 1 ≤ n → n < base ^ d → get_or (last_digits d base n) 0 0 ≡ 48 → ⊥
    first_counts zero n s h = absurd (omega (arith, pow-zero base))
    first_counts (suc d) n s h =
        ⊎_elim
        (λ l. rw (digit_first d base n l) (λ e. omega (arith, glyph-above n)))
        (λ g.
        let r = digit_room base n (suc d) g h two in
        let q : 1 ≤ n / base = (le-div_iff_mul-le {k = base} (omega arith)).1 (omega arith) in
        rw (digits_more d base n g, get_or-append (last_digits d base (n / base)) (glyph (n % base) ∷ []) 0 0 (digits_some d (n / base) (omega arith)))
        (first_counts d (n / base) q (rest_less d n h)))
        (lt_or_le n base)

    none_leads : (n : ℕ) → n < base ^ 20 → leading_zero (numeral base n) ≡ false
    unfolding numeral
    none_leads zero h = no_zero_leads (last_digits 20 base 0) (inl (rw (digit_first 19 base 0 (omega arith)) (omega arith)))
    none_leads (suc n) h = no_zero_leads (last_digits 20 base (suc n)) (inr (first_counts 20 (suc n) (omega arith) h))

    pub number_back : (most n : ℕ) → 1 ≤ most → most ≤ 20 → n < base ^ most → number base most (numeral base n) ≡ Some n
    unfolding numeral
    number_back most n m w h =
        let t : n < base ^ 20 = omega (arith, pow-le-pow_right {n = base} (omega arith) {i = most} {j = 20} w) in
        number_digits base most (numeral base n) (within_holds 1 most (length (numeral base n)) (digits_some 20 n (omega arith)) (digits_few 20 n most m h)) (none_leads n t)
        ∙ digits_back 20 n t
