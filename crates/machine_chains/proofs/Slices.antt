-- Laws of the slice of a state.
--     slice_below        a slice stays below 2 ^ chains
--     slice-digit        chain by chain: the bit of a chain is the parity under its mask
--     Read               the masks that a loop has read, from the last of the first 64 down, have given their bits
--     read_start, read_next, read_room, read_end     its laws
-- Assumes nothing.
use mathlib.Core.Path.{◌≡◌, refl, sym, ap, ◌∙◌}
use mathlib.Core.List.{List, [], ◌∷◌, ◌++◌}
use Prim.Native.Nat.{ℕ, zero, suc, ◌+◌, ◌*◌, ◌/◌, ◌^◌, ◌≤◌, ◌<◌, min}
use native.Mathlib.Nat.{not-suc-le-zero, le_of_suc-le-suc}
use native.Mathlib.Omega.{arith}
use lib.ListN.{length, get_or, take, length-take, length-append}
use lib.Pow.{pow_mono}
use Rattle.std.proofs.Common.{append_assoc}
use Rattle.std.proofs.lemmas.List.{append-nil}
use Rattle.words_bounded.proofs.Front.{take-lesser}
use Rattle.words_gf2.specs.Words.{digit, odd}
use Rattle.words_gf2.proofs.Digits.{digit_zero, digit-suc}
use Rattle.words_gf2.proofs.Parity.{odd_lt}
use Rattle.machine_chains.specs.Chains.{slice}

double_below : (n x b : ℕ) → x < 2 ^ n → b < 2 → b + 2 * x < 2 ^ suc n
double_below n x b h l = omega arith

pub slice_below : (masks : List ℕ) (s : ℕ) → slice masks s < 2 ^ length masks
unfolding slice
slice_below [] s = omega arith
slice_below (m ∷ ms) s = double_below (length ms) (slice ms s) (odd s m) (slice_below ms s) (odd_lt s m)

pub slice-digit : (masks : List ℕ) (s j : ℕ) → j < length masks → digit (slice masks s) j ≡ odd s (get_or masks j 0)
unfolding slice
slice-digit [] s j h = absurd (not-suc-le-zero h)
slice-digit (m ∷ ms) s zero h = digit_zero (odd s m + 2 * slice ms s) ∙ (let l = odd_lt s m in omega arith)
slice-digit (m ∷ ms) s (suc j) h =
    let d : (odd s m + 2 * slice ms s) / 2 ≡ slice ms s = (let l = odd_lt s m in omega arith) in
    digit-suc (odd s m + 2 * slice ms s) j ∙ ap (λ (x : ℕ). digit x j) d ∙ slice-digit ms s j (le_of_suc-le-suc h)

-- ---- a loop that goes down through the first 64 masks

none_left : (l : List ℕ) → length l ≡ 0 → l ≡ []
none_left [] z = refl
none_left (x ∷ l) z = absurd (omega arith)

-- the masks that are left and those that have given their bits are the first 64
pub record Read (masks : List ℕ) (s : ℕ) (left : List ℕ) (bits : ℕ) : Type 0 where
  pub given : List ℕ
  pub whole : left ++ given ≡ take 64 masks
  pub slice_is : bits ≡ slice given s

module _ (masks : List ℕ) (s : ℕ) where
  pub read_start : (n : ℕ) → n ≡ min 64 (length masks) → Read masks s (take n masks) 0
  unfolding slice
  read_start n e = record { given = []; whole = rw (e, append-nil) (take-lesser 64 masks); slice_is = refl }

  module _ (left : List ℕ) (bits : ℕ) (r : Read masks s left bits) where
    pub read_end : length left ≡ 0 → bits ≡ slice (take 64 masks) s
    read_end z = r.slice_is ∙ ap (λ (l : List ℕ). slice l s) (ap (λ (l : List ℕ). l ++ r.given) (sym (none_left left z)) ∙ r.whole)

    module _ (rest : List ℕ) (m : ℕ) (e : left ≡ rest ++ (m ∷ [])) where
      given_longer : rest ++ (m ∷ r.given) ≡ take 64 masks
      given_longer = sym (append_assoc rest (m ∷ []) r.given) ∙ rw (← e) r.whole

      pub read_next : Read masks s rest (bits * 2 + odd s m)
      unfolding slice
      read_next = record { given = m ∷ r.given; whole = given_longer; slice_is = rw r.slice_is (omega arith) }

      -- one more bit fits a word
      pub read_room : bits * 2 + 1 < 2 ^ 64
      read_room =
          let few : length r.given < 64 = omega (arith, ap length given_longer, length-append rest (m ∷ r.given), length-take 64 masks) in
          let b = slice_below r.given s in
          let p : 2 ^ length r.given ≤ 2 ^ 63 = pow_mono {i = length r.given} {j = 63} (omega arith) in
          omega (arith, r.slice_is)
