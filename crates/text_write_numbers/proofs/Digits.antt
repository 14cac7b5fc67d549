-- Digits written from the last to the first, at the end of an array of 20 (`numeral`).
--     digit_room      before the first digit there is space for one more
--     digit_less      what is left after a digit has one digit fewer
--     digit_go, digit_first      a digit behind which the others stand already, and the first one
--     digits-none     before a digit is written
--     word_fits       a word has at most 20 digits in a base of 10 and more
--     digits-taken    the part of the array from the first digit on
-- Assumes nothing.
use mathlib.Core.Path.{◌≡◌, sym, ap, ap₂, subst, ◌∙◌}
use mathlib.Core.List.{List, [], ◌∷◌, ◌++◌, append_assoc, append-nil}
use Prim.Native.Nat.{ℕ, zero, suc, ◌-◌, ◌/◌, ◌%◌, ◌^◌, ◌≤◌, ◌<◌}
use native.Mathlib.Nat.{pow-zero, pow-suc, pow-le-pow_left, div-lt_iff_lt-mul}
use native.Mathlib.Omega.{arith}
use borrow.Author.Tests.{lt-ltb, le-ltb}
use lib.ListN.{length, take, drop, set, length-drop, drop_of_length-le}
use lib.Seq.{drop-cons, get_or-set_same, drop-set-lt, lt-length-set, take_all}
use Rattle.text_write_numbers.specs.Numerals.{glyph, last_digits, numeral}

pow_one : (b : ℕ) → b ^ suc zero ≡ b
pow_one b = rw (pow-suc, pow-zero) (omega arith)

pub digit_room : (b n i : ℕ) → b ≤ n → n < b ^ i → 2 ≤ b → 2 ≤ i
digit_room b n zero l p q = absurd (omega (arith, pow-zero b))
digit_room b n (suc zero) l p q = absurd (omega (arith, pow_one b))
digit_room b n (suc (suc i)) l p q = omega arith

pub digit_less : (b n i : ℕ) → 0 < b → 0 < i → n < b ^ i → n / b < b ^ (i - 1)
digit_less b n i z h p =
    let e : i ≡ suc (i - 1) = omega arith in
    (div-lt_iff_lt-mul z).1 (subst (λ (m : ℕ). n < m) (ap (λ (k : ℕ). b ^ k) e ∙ pow-suc b (i - 1)) p)

drop-set : (t : List ℕ) (j v : ℕ) → j < length t → drop j (set t j v) ≡ v ∷ drop (suc j) t
drop-set t j v h =
    drop-cons (set t j v) j 0 (lt-length-set t j v h)
    ∙ ap₂ (λ (x : ℕ) (l : List ℕ). x ∷ l) (get_or-set_same t j v 0 h) (drop-set-lt (suc j) t j v (omega arith))

module _ (b n : ℕ) (t : List ℕ) where
  go_suc : (j : ℕ) → j < length t → b ≤ n → last_digits j b (n / b) ++ drop j (set t j (glyph (n % b))) ≡ last_digits (suc j) b n ++ drop (suc j) t
  unfolding last_digits
  go_suc j h l = rw (drop-set t j (glyph (n % b)) h, le-ltb n b l, last_digits) (sym (append_assoc (last_digits j b (n / b)) (glyph (n % b) ∷ []) (drop (suc j) t)))

  first_suc : (j : ℕ) → j < length t → n < b → drop j (set t j (glyph n)) ≡ last_digits (suc j) b n ++ drop (suc j) t
  unfolding last_digits
  first_suc j h l = rw (drop-set t j (glyph n) h, lt-ltb n b l, last_digits)

  module _ (i : ℕ) (h : 0 < i) (g : i ≤ length t) where
    pub digit_go : b ≤ n → last_digits (i - 1) b (n / b) ++ drop (i - 1) (set t (i - 1) (glyph (n % b))) ≡ last_digits i b n ++ drop i t
    digit_go l =
        let e : suc (i - 1) ≡ i = omega arith in
        subst (λ (k : ℕ). last_digits (i - 1) b (n / b) ++ drop (i - 1) (set t (i - 1) (glyph (n % b))) ≡ last_digits k b n ++ drop k t) e (go_suc (i - 1) (omega arith) l)

    pub digit_first : n < b → drop (i - 1) (set t (i - 1) (glyph n)) ≡ last_digits i b n ++ drop i t
    digit_first l =
        let e : suc (i - 1) ≡ i = omega arith in
        subst (λ (k : ℕ). drop (i - 1) (set t (i - 1) (glyph n)) ≡ last_digits k b n ++ drop k t) e (first_suc (i - 1) (omega arith) l)

pub digits-none : (b n : ℕ) (t : List ℕ) → length t ≡ 20 → last_digits 20 b n ++ drop 20 t ≡ numeral b n
unfolding numeral
digits-none b n t e = rw (drop_of_length-le t {i = 20} (omega arith)) (append-nil (last_digits 20 b n))

pub word_fits : (b n : ℕ) → 10 ≤ b → n < 2 ^ 64 → n < b ^ 20
word_fits b n h p = omega (arith, pow-le-pow_left {n = 10} {m = b} h 20)

pub digits-taken : (t : List ℕ) (r : ℕ) → length t ≡ 20 → take (20 - r) (drop r t) ≡ drop r t
digits-taken t r e = let h : length (drop r t) ≤ 20 - r = simp length-drop (omega arith) in take_all (20 - r) (drop r t) h
