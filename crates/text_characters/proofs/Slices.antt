-- The slice that characters say (`slice_of`), from the last character to the first.
--     said_slice specified bits     a slice by its two numbers, as it is said
--     slice-start, slice_go, slice-none, slice_end     of a loop that goes down: the start, one character more in front, a byte that is none, and the end
--     specified_lt, bit_lt, slice_fits     a character adds a bit to each number, which fit a word
--     from_last        the characters in the order in which they are read
-- Assumes nothing.
use Rattle.std.specs.Prelude.{None, Option, Some}
use Rattle.machine_slices.specs.declared.TestSlice.{TestSlice}
use mathlib.Core.Bool.{Bool, true, false}
use mathlib.Core.Path.{◌≡◌, ap, ◌∙◌}
use mathlib.Core.List.{List, [], ◌∷◌, reverse}
use Prim.Native.Nat.{ℕ, zero, suc, ◌+◌, ◌*◌, ◌-◌, ◌^◌, ◌<◌}
use native.Mathlib.Nat.{pow-suc}
use native.Mathlib.Numerals.{add-one}
use native.Mathlib.Omega.{arith}
use lib.Arith.{digits_lt}
use lib.Dec.{eqb}
use lib.ListN.{length, get_or, drop}
use lib.Pow.{pow_mono}
use lib.Seq.{drop-cons, drop-length}
use Rattle.std.proofs.lemmas.List.{get_or-reverse, get_or_default, length-reverse}
use Rattle.text_characters.specs.Characters.{is_character, specified_at, bit_at, in_front, slice_of}

-- A slice by its two numbers, as it is said.
abbrev pub said_slice : ℕ → ℕ → Option TestSlice
said_slice specified bits = Some (record { specified = specified; bits = bits })

pub slice-start : (l : List ℕ) → slice_of (drop (length l) l) ≡ said_slice 0 0
unfolding slice_of
slice-start l = rw (drop-length l)

-- No character in front mends a byte that is none.
none_through : (l : List ℕ) (i : ℕ) → slice_of (drop i l) ≡ None → slice_of l ≡ None
unfolding slice_of in_front
none_through l zero e = e
none_through [] (suc i) e = e
none_through (b ∷ l) (suc i) e = ap (in_front b) (none_through l i e)

drop_at : (l : List ℕ) (j i : ℕ) → suc j ≡ i → j < length l → drop j l ≡ get_or l j 0 ∷ drop i l
drop_at l j i e h = rw (← e) (drop-cons l j 0 h)

-- The byte b in front of the last k.
module _ (l : List ℕ) (k specified bits b : ℕ) (h : k < length l) (q : b ≡ get_or l (length l - k - 1) 0) (e : slice_of (drop (length l - k) l) ≡ said_slice specified bits) where
  one_more : drop (length l - (k + 1)) l ≡ b ∷ drop (length l - k) l
  one_more =
      let m : length l - (k + 1) ≡ length l - k - 1 = omega arith in
      rw (m, q) (drop_at l (length l - k - 1) (length l - k) (omega arith) (omega arith))

  pub slice_go : is_character b ≡ true → slice_of (drop (length l - (k + 1)) l) ≡ said_slice (specified * 2 + specified_at b) (bits * 2 + bit_at b)
  unfolding slice_of in_front
  slice_go t = rw (one_more, e, t, in_front)

  pub slice-none : is_character b ≡ false → slice_of l ≡ None
  unfolding slice_of in_front
  slice-none t = none_through l (length l - (k + 1)) (rw (one_more, e, t, in_front))

pub slice_end : (l : List ℕ) (k specified bits : ℕ) → k ≡ length l → slice_of (drop (length l - k) l) ≡ said_slice specified bits → slice_of l ≡ said_slice specified bits
slice_end l k specified bits z e = let f : length l - k ≡ 0 = omega arith in rw f at e

pub specified_lt : (b : ℕ) → specified_at b < 2
unfolding specified_at
specified_lt b = elim (eqb b 120) as (λ (t : Bool). elim t [ true ↦ 0 | false ↦ 1 ] < 2) [ true ↦ omega arith | false ↦ omega arith ]

pub bit_lt : (b : ℕ) → bit_at b < 2
unfolding bit_at
bit_lt b = elim (eqb b 49) as (λ (t : Bool). elim t [ true ↦ 1 | false ↦ 0 ] < 2) [ true ↦ omega arith | false ↦ omega arith ]

-- One character more in a number of at most 64.
pub slice_fits : (v b k : ℕ) → k < 64 → v < 2 ^ k → b < 2 → (v * 2 + b < 2 ^ (k + 1)) × (v * 2 + b < 2 ^ 64)
slice_fits v b k h p q =
    let t : v * 2 + b < 2 ^ (k + 1) = rw (add-one, pow-suc) (digits_lt p q) in
    (t, omega (arith, t, pow_mono {i = k + 1} {j = 64} (omega arith)))

-- The k-th character from the last.
pub from_last : (l : List ℕ) (k x : ℕ) → k < length (reverse l) → x ≡ get_or (reverse l) k x → (k < length l) × (x ≡ get_or l (length l - k - 1) 0)
from_last l k x h e =
    let g : k < length l = rw length-reverse at h in
    let m : length l - 1 - k ≡ length l - k - 1 = omega arith in
    (g, e ∙ get_or-reverse l k x g ∙ ap (λ i. get_or l i x) m ∙ get_or_default l (length l - k - 1) x 0 (omega arith))
