-- The laws of words of lanes.
--     lane_word           lane i of a word is the fact about i
--     word_is             a word of 64 bits with these lanes is that word
--     each, digit-test, digit-each     a test of all lanes, computed
--     all_lanes           every lane of the full word is set
--     reading_lane        lane i of a reading is the parity of member number i
--     table-digits        the words of the six digits of a number
--     only-fits           a word times a bit fits
--     Lanes, lanes_start, lanes_next     of a loop over the vectors
-- Assumes nothing.
use mathlib.Core.Path.{◌≡◌, refl, sym, ap, ◌∙◌, subst}
use mathlib.Core.Bool.{Bool, true, ◌&&◌}
use mathlib.Core.Logic.{⊎_elim}
use mathlib.Core.List.{List, [], ◌∷◌}
use Prim.Native.Nat.{ℕ, zero, suc, ◌+◌, ◌*◌, ◌%◌, ◌^◌, ◌<◌}
use native.Mathlib.Nat.{le_of_suc-le-suc, eq-or-lt_of_le, mul-le-mul_left}
use native.Mathlib.Numerals.{add-one}
use native.Mathlib.Omega.{arith}
use lib.Bits.{bit_xor}
use lib.Dec.{eqb}
use lib.ListN.{get_or, length, take}
use lib.Seq.{take-suc, length-take-le}
use borrow.Author.Tests.{eqb-true}
use Rattle.words_bounded.proofs.Tests.{both, eq_or_not, lt_or_le}
use Rattle.words_gf2.specs.Words.{digit, odd}
use Rattle.words_gf2.proofs.Digits.{digit_lt, digit-none, digit_wide, put_same, put_other, put_below, words_equal}
use Rattle.words_gf2.proofs.Xor.{digit-xor}
use Rattle.words_gf2.proofs.Parity.{odd_lt, xor-odd}
use Rattle.search_members.specs.Members.{choose, pick}
use Rattle.search_members.proofs.Numbers.{pick-last}
use Rattle.search_lanes.specs.Lanes.{word_of, readings}

module _ (f : ℕ → ℕ) (bits : (i : ℕ) → f i < 2) where
  word_below : (n : ℕ) → word_of f n < 2 ^ n
  unfolding word_of
  word_below zero = omega arith
  word_below (suc n) =
      let l = word_below n in
      let w : word_of f n < 2 ^ suc n = omega arith in
      put_below (f n) (bits n) (suc n) (word_of f n) n (omega arith) w (digit_wide n (word_of f n) n (omega arith) l)

  lane_word : (n i : ℕ) → i < n → digit (word_of f n) i ≡ f i
  unfolding word_of
  lane_word zero i h = absurd (omega arith)
  lane_word (suc n) i h =
      let z = digit_wide n (word_of f n) n (omega arith) (word_below n) in
      ⊎_elim
      (λ e. subst (λ (k : ℕ). digit (word_of f n + f n * 2 ^ n) k ≡ f k) (sym e) (put_same (f n) (bits n) (word_of f n) n z))
      (λ ne. put_other (f n) (bits n) (word_of f n) n i z ne ∙ lane_word n i (omega arith))
      (eq_or_not i n)

  pub word_is : (w : ℕ) → w < 2 ^ 64 → ((i : ℕ) → i < 64 → digit w i ≡ f i) → w ≡ word_of f 64
  word_is w h e = words_equal w (word_of f 64) (λ i. ⊎_elim
      (λ l. e i l ∙ sym (lane_word 64 i l))
      (λ g. digit_wide 64 w i g h ∙ sym (digit_wide 64 (word_of f 64) i g (word_below 64)))
      (lt_or_le i 64))

-- ---- tests of all lanes, computed

unfoldable pub each : (ℕ → Bool) → ℕ → Bool
each p zero = true
each p (suc n) = p n && each p n

each_at : (p : ℕ → Bool) (n : ℕ) → each p n ≡ true → (k : ℕ) → k < n → p k ≡ true
unfolding each
each_at p zero e k h = absurd (omega arith)
each_at p (suc n) e k h =
    let b = both (p n) (each p n) e in
    ⊎_elim (λ q. subst (λ (i : ℕ). p i ≡ true) (sym q) b.0) (λ l. each_at p n b.1 k l) (eq-or-lt_of_le (le_of_suc-le-suc h))

unfoldable pub digit-test : ℕ → ℕ → ℕ → Bool
digit-test k w i = eqb (digit w i) (digit i k)

digit-each : (k w : ℕ) → each (digit-test k w) 64 ≡ true → (i : ℕ) → i < 64 → digit w i ≡ digit i k
unfolding digit-test
digit-each k w e i h = eqb-true (digit w i) (digit i k) (each_at (digit-test k w) 64 e i h)

set-test : ℕ → Bool
set-test i = eqb (digit 18446744073709551615 i) 1

pub all_lanes : (i : ℕ) → i < 64 → digit 18446744073709551615 i ≡ 1
unfolding each set-test digit
all_lanes i h = eqb-true (digit 18446744073709551615 i) 1 (each_at set-test 64 refl i h)

pub table-digits : (k : ℕ) → k < 6 → (i : ℕ) → i < 64
    → digit (get_or {A = ℕ} (12297829382473034410 ∷ 14757395258967641292 ∷ 17361641481138401520 ∷ 18374966859414961920 ∷ 18446462603027742720 ∷ 18446744069414584320 ∷ []) k 0) i ≡ digit i k
unfolding each digit-test digit
table-digits zero h = digit-each 0 12297829382473034410 refl
table-digits (suc zero) h = digit-each 1 14757395258967641292 refl
table-digits (suc (suc zero)) h = digit-each 2 17361641481138401520 refl
table-digits (suc (suc (suc zero))) h = digit-each 3 18374966859414961920 refl
table-digits (suc (suc (suc (suc zero)))) h = digit-each 4 18446462603027742720 refl
table-digits (suc (suc (suc (suc (suc zero))))) h = digit-each 5 18446744069414584320 refl
table-digits (suc (suc (suc (suc (suc (suc k)))))) h = absurd (omega arith)

-- ---- a word times a bit

pub only-fits : (w b : ℕ) → w < 2 ^ 64 → b < 2 → w * b < 2 ^ 64
only-fits w b h l = omega (arith, mul-le-mul_left {m = b} {n = 1} w (omega arith))

only_lane : (w b i : ℕ) → b < 2 → digit (w * b) i ≡ digit w i * b
unfolding digit
only_lane w zero i h = let z : w * 0 ≡ 0 = omega arith in rw z (omega (arith, digit-none i))
only_lane w (suc zero) i h = let e : w * 1 ≡ w = omega arith in rw e (omega arith)
only_lane w (suc (suc b)) i h = absurd (omega arith)

-- ---- readings

pub reading_lane : (x : ℕ) (vs : List ℕ) (m i : ℕ) → i < 64 → digit (readings x vs m) i ≡ odd (pick x vs i) m
unfolding readings
reading_lane x vs m i h = lane_word (λ i. odd (pick x vs i) m) (λ i. odd_lt (pick x vs i) m) 64 i h

-- what is read of 64 members by the first k vectors
abbrev pub Lanes : ℕ → List ℕ → ℕ → ℕ → ℕ → Type 0
Lanes x vs m k w = (i : ℕ) → i < 64 → digit w i ≡ odd (pick x (take k vs) i) m

module _ (x : ℕ) (vs : List ℕ) (m : ℕ) where
  pub lanes_start : (w : ℕ) → w ≡ 18446744073709551615 * odd x m → Lanes x vs m 0 w
  unfolding pick
  lanes_start w e i h = rw e (only_lane 18446744073709551615 (odd x m) i (odd_lt x m) ∙ rw (all_lanes i h) (omega arith))

  -- the parity of member i, by one vector more
  more_parity : (k i : ℕ) → k < length vs → odd (pick x (take (k + 1) vs) i) m ≡ (odd (pick x (take k vs) i) m + digit i k * odd (get_or vs k 0) m) % 2
  more_parity k i h =
      let v = get_or vs k 0 in
      let s = pick x (take k vs) i in
      let e : pick x (take (k + 1) vs) i ≡ choose (digit i k) s (bit_xor s v) =
      ap (λ (n : ℕ). pick x (take n vs) i) (add-one k)
      ∙ ap (λ (l : List ℕ). pick x l i) (take-suc vs k 0 h)
      ∙ pick-last (take k vs) x v i
      ∙ ap (λ (n : ℕ). choose (digit i n) s (bit_xor s v)) (length-take-le k vs (omega arith)) in
      ap (λ (t : ℕ). odd t m) e ∙ go (digit i k) (digit_lt i k) s v
    where
      go : (d : ℕ) → d < 2 → (s v : ℕ) → odd (choose d s (bit_xor s v)) m ≡ (odd s m + d * odd v m) % 2
      go zero l s v = omega (arith, odd_lt s m)
      go (suc zero) l s v = xor-odd s v m ∙ omega arith
      go (suc (suc d)) l s v = absurd (omega arith)

  pub lanes_next : (k w u d r : ℕ) → k < length vs → ((i : ℕ) → i < 64 → digit d i ≡ digit i k) → u ≡ d * r → r ≡ odd (get_or vs k 0) m → Lanes x vs m k w → Lanes x vs m (k + 1) (bit_xor w u)
  lanes_next k w u d r h g e q l i b =
      digit-xor w u i
      ∙ ap (λ (n : ℕ). (n + digit u i) % 2) (l i b)
      ∙ ap (λ (n : ℕ). (odd (pick x (take k vs) i) m + n) % 2)
      (ap (λ (n : ℕ). digit n i) (e ∙ ap (λ (n : ℕ). d * n) q) ∙ only_lane d (odd (get_or vs k 0) m) i (odd_lt (get_or vs k 0) m) ∙ ap (λ (n : ℕ). n * odd (get_or vs k 0) m) (g i b))
      ∙ sym (more_parity k i h)
