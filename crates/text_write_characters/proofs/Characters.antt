-- Slices character by character, and how long their lines are.
--     character_specified      the character of a specified position
--     characters_go, characters_end      the characters of the chains from i on
--     characters-length        a character for each chain
--     slice-length             a line with a slice
-- Assumes nothing.
use mathlib.Core.Path.{◌≡◌, refl, ap}
use mathlib.Core.List.{List, [], ◌∷◌, ◌++◌}
use Prim.Native.Nat.{ℕ, zero, suc, ◌+◌, ◌-◌, ◌/◌, ◌%◌, ◌≤◌, ◌<◌}
use native.Mathlib.Omega.{arith}
use lib.ListN.{length, length-append}
use Rattle.machine_slices.specs.declared.TestSlice.{TestSlice}
use Rattle.text_write_characters.specs.Characters.{character, characters, slice_line}

pub character_specified : (p b : ℕ) → (p ≡ 0 → ⊥) → character p b ≡ b + 48
unfolding character
character_specified zero b h = absurd (h refl)
character_specified (suc p) b h = refl

module _ (n i : ℕ) (s : TestSlice) where
  pub characters_go : i < n → characters (n - i) s ≡ (character (s.specified % 2) (s.bits % 2) ∷ []) ++ characters (n - (i + 1)) (record { specified = s.specified / 2; bits = s.bits / 2 })
  unfolding characters
  characters_go h = let e : n - i ≡ suc (n - (i + 1)) = omega arith in rw e

  pub characters_end : n ≤ i → characters (n - i) s ≡ []
  unfolding characters
  characters_end h = let e : n - i ≡ zero = omega arith in rw e

pub characters-length : (n : ℕ) (s : TestSlice) → length (characters n s) ≡ n
unfolding characters
characters-length zero s = refl
characters-length (suc n) s = ap suc (characters-length n (record { specified = s.specified / 2; bits = s.bits / 2 }))

pub slice-length : (n : ℕ) (k : List ℕ) (s : TestSlice) → length (slice_line n k s) ≡ length k + n + 1
unfolding slice_line
slice-length n k s = simp (length-append, characters-length) (omega arith)
