-- A flipped test slice asks of a slice what the test slice asks of the slice with its inverted chains turned.
--     and_xor             the bits of a sum under a mask
--     flipped-agrees      agreeing with a flipped test slice
--     flipped-shows       showing a flipped stop slice
--     flipped-formed      a flipped test slice is as well-formed
--     flipped-paired      the flipped bits of two lists, read as test slices
--     flipped-length      they are as many
--     flipped-room, flipped-front     they stand at the front of the buffer that they were written to
--     slices_flipped, stop-flipped     causes 4 and 5 do not hold of what is flipped
-- Assumes nothing.
use mathlib.Core.Path.{◌≡◌, refl, sym, ap, ap₂, ◌∙◌}
use mathlib.Core.Logic.{⊎_elim}
use mathlib.Core.Bool.{false}
use mathlib.Core.List.{List, [], ◌∷◌, ◌++◌, map}
use Prim.Native.Nat.{ℕ, zero, suc, ◌+◌, ◌%◌, ◌^◌, ◌≤◌, ◌<◌, min}
use native.Mathlib.Omega.{arith}
use lib.Bits.{bit_and, bit_xor, and_le_r}
use lib.Dec.{eqb}
use lib.ListN.{length, take, length-append}
use lib.Seq.{take_at}
use borrow.Author.Tests.{eq-eqb, ne_eqb}
use Rattle.words_bounded.specs.Bounded.{any}
use Rattle.words_bounded.proofs.Tests.{neither, eq_or_not}
use Rattle.words_gf2.specs.Words.{digit}
use Rattle.words_gf2.proofs.Digits.{digit_lt, digit_and, words_equal, beyond_no}
use Rattle.words_gf2.proofs.Xor.{xor_twice, digit-xor}
use Rattle.machine_slices.specs.Slices.{agrees, shows, paired, bad_slice, bad_slices, bad_stop}
use Rattle.machine_slices.specs.declared.TestSlice.{TestSlice}
use Rattle.machine_slices.proofs.Causes.{slices_equal, slice-last}
use Rattle.machine_slices.proofs.Formed.{slice-formed, slices_all, all_slices}
use Rattle.machine_inversion.specs.Inversion.{flipped, flipped_bits}

-- ---- words

digits : (x y z : ℕ) → x < 2 → y < 2 → z < 2 → min ((x + y) % 2) z ≡ (min x z + min y z) % 2
digits x y zero hx hy hz = omega arith
digits x y (suc zero) hx hy hz = omega arith
digits x y (suc (suc z)) hx hy hz = absurd (omega arith)

pub and_xor : (a b c : ℕ) → bit_and (bit_xor a b) c ≡ bit_xor (bit_and a c) (bit_and b c)
and_xor a b c = words_equal _ _ (λ i.
    digit_and (bit_xor a b) c i
    ∙ ap (λ (x : ℕ). min x (digit c i)) (digit-xor a b i)
    ∙ digits (digit a i) (digit b i) (digit c i) (digit_lt a i) (digit_lt b i) (digit_lt c i)
    ∙ sym (digit-xor (bit_and a c) (bit_and b c) i ∙ ap₂ (λ (x y : ℕ). (x + y) % 2) (digit_and a c i) (digit_and b c i)))

and_twice : (a c : ℕ) → bit_and (bit_and a c) c ≡ bit_and a c
and_twice a c = words_equal _ _ (λ i. digit_and (bit_and a c) c i ∙ rw (digit_and a c i) (omega arith))

-- a term moves to the other side of a test
xor-across : (a m b : ℕ) → eqb (bit_xor a m) b ≡ eqb a (bit_xor b m)
xor-across a m b = ⊎_elim
    (λ e. eq-eqb (bit_xor a m) b e ∙ sym (eq-eqb a (bit_xor b m) (sym (xor_twice a m) ∙ ap (λ (x : ℕ). bit_xor x m) e)))
    (λ n. ne_eqb (bit_xor a m) b n ∙ sym (ne_eqb a (bit_xor b m) (λ e. n (ap (λ (x : ℕ). bit_xor x m) e ∙ xor_twice b m))))
    (eq_or_not (bit_xor a m) b)

-- ---- one test slice

module _ (invert : ℕ) (t : TestSlice) where
  pub flipped-agrees : (v : ℕ) → agrees t (bit_xor v invert) ≡ agrees (flipped invert t) v
  unfolding agrees flipped
  flipped-agrees v = ap (λ (x : ℕ). eqb x t.bits) (and_xor v invert t.specified) ∙ xor-across (bit_and v t.specified) (bit_and invert t.specified) t.bits

  pub flipped-shows : (v : ℕ) → shows t (bit_xor v invert) ≡ shows (flipped invert t) v
  unfolding shows
  flipped-shows v = flipped-agrees v

  pub flipped-formed : (chains : ℕ) → bad_slice chains t ≡ false → bad_slice chains (flipped invert t) ≡ false
  unfolding flipped
  flipped-formed chains b =
      let f = slice-formed chains t b in
      let p : ℕ = t.specified in
      let x : ℕ = bit_xor t.bits (bit_and invert p) in
      let inside : bit_and x p ≡ x = and_xor t.bits (bit_and invert p) p ∙ ap₂ bit_xor f.inside (and_twice invert p) in
      let below : x < 2 ^ chains = omega (arith, and_le_r x p, inside, f.among) in
      slice-last chains (record { specified = p; bits = x }) inside (beyond_no chains p f.among) ∙ beyond_no chains x below

  pub stop-flipped : (chains : ℕ) → bad_stop chains t ≡ false → bad_stop chains (flipped invert t) ≡ false
  unfolding bad_stop flipped
  stop-flipped chains b =
      let a = neither (eqb t.specified 0) (bad_slice chains t) b in
      rw a.0 (flipped-formed chains a.1)

-- ---- lists of them

module _ (invert : ℕ) where
  pub flipped-paired : (ps bs : List ℕ) → paired ps (flipped_bits invert ps bs) ≡ map (flipped invert) (paired ps bs)
  unfolding paired flipped_bits flipped
  flipped-paired [] bs = refl
  flipped-paired (p ∷ ps) [] = refl
  flipped-paired (p ∷ ps) (b ∷ bs) = ap (λ (l : List TestSlice). flipped invert (record { specified = p; bits = b }) ∷ l) (flipped-paired ps bs)

  pub flipped-length : (ps bs : List ℕ) → length ps ≡ length bs → length (flipped_bits invert ps bs) ≡ length bs
  unfolding flipped_bits
  flipped-length [] [] e = refl
  flipped-length [] (b ∷ bs) e = absurd (omega arith)
  flipped-length (p ∷ ps) [] e = refl
  flipped-length (p ∷ ps) (b ∷ bs) e = ap suc (flipped-length ps bs (omega arith))

  module _ (ps bs rest out : List ℕ) (same : length ps ≡ length bs) (written : out ≡ flipped_bits invert ps bs ++ rest) where
    pub flipped-room : length bs ≤ length out
    flipped-room = omega (arith, ap length written, length-append (flipped_bits invert ps bs) rest, flipped-length ps bs same)

    pub flipped-front : take (length bs) out ≡ flipped_bits invert ps bs
    flipped-front = ap (take (length bs)) written ∙ take_at (flipped_bits invert ps bs) rest (length bs) (flipped-length ps bs same)

  any_flipped : (chains : ℕ) (w : List TestSlice) → any (bad_slice chains) w ≡ false → any (bad_slice chains) (map (flipped invert) w) ≡ false
  unfolding any
  any_flipped chains [] a = refl
  any_flipped chains (t ∷ w) a =
      let b = neither (bad_slice chains t) (any (bad_slice chains) w) a in
      rw (flipped-formed invert t chains b.0) (any_flipped chains w b.1)

  pub slices_flipped : (chains : ℕ) (ps bs : List ℕ) → bad_slices chains ps bs ≡ false → bad_slices chains ps (flipped_bits invert ps bs) ≡ false
  slices_flipped chains ps bs b =
      let e = slices_equal chains ps bs b in
      all_slices chains ps (flipped_bits invert ps bs) (e ∙ sym (flipped-length ps bs e)) (rw (flipped-paired ps bs) (any_flipped chains (paired ps bs) (slices_all chains ps bs b)))
