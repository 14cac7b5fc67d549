-- Slices are read back (`characters`, `slice_of`).
--     half s          the slice s without its first chain
--     front_back      a character in front says the position that it was written for
--     low_inside, formed-half     a well-formed slice has no bit where its first chain is unspecified, and its half is well-formed
--     slice_back        the characters of a well-formed slice are read as the slice
-- Assumes nothing.
use Rattle.std.specs.Prelude.{Some}
use mathlib.Core.Path.{◌≡◌, refl, ap, ap₂, ◌∙◌}
use Prim.Native.Nat.{ℕ, zero, suc, ◌+◌, ◌*◌, ◌/◌, ◌%◌, ◌≤◌, ◌<◌}
use native.Mathlib.Omega.{arith}
use lib.Bits.{and_step, and_le_r}
use Rattle.machine_slices.specs.declared.TestSlice.{TestSlice}
use Rattle.machine_slices.proofs.Formed.{Formed}
use Rattle.text_characters.specs.Characters.{is_character, specified_at, bit_at, in_front, slice_of}
use Rattle.text_characters.proofs.Slices.{said_slice}
use Rattle.text_write_characters.specs.Characters.{character, characters}

abbrev half : TestSlice → TestSlice
half s = record { specified = s.specified / 2; bits = s.bits / 2 }

front_back : (p b : ℕ) (s : TestSlice) → p < 2 → b ≤ p → in_front (character p b) (Some s) ≡ said_slice (s.specified * 2 + p) (s.bits * 2 + b)
unfolding character in_front is_character specified_at bit_at
front_back zero zero s h g = refl
front_back zero (suc b) s h g = absurd (omega arith)
front_back (suc zero) zero s h g = refl
front_back (suc zero) (suc zero) s h g = refl
front_back (suc zero) (suc (suc b)) s h g = absurd (omega arith)
front_back (suc (suc p)) b s h g = absurd (omega arith)

module _ (n : ℕ) (s : TestSlice) (f : Formed (suc n) s) where
  low_inside : s.bits % 2 ≤ s.specified % 2
  low_inside = omega (arith, and_step s.bits s.specified, f.inside)

  formed-half : Formed n (half s)
  formed-half = record { among = omega (arith, f.among); inside = omega (arith, and_step s.bits s.specified, f.inside) }

pub slice_back : (n : ℕ) (s : TestSlice) → Formed n s → slice_of (characters n s) ≡ Some s
unfolding characters slice_of
slice_back zero s f =
    let a : 0 ≡ s.specified = omega (arith, f.among) in
    let b : 0 ≡ s.bits = omega (arith, f.among, f.inside, and_le_r s.bits s.specified) in
    ap₂ said_slice a b
slice_back (suc n) s f =
    let a : s.specified / 2 * 2 + s.specified % 2 ≡ s.specified = omega arith in
    let b : s.bits / 2 * 2 + s.bits % 2 ≡ s.bits = omega arith in
    ap (in_front (character (s.specified % 2) (s.bits % 2))) (slice_back n (half s) (formed-half n s f))
    ∙ front_back (s.specified % 2) (s.bits % 2) (half s) (omega arith) (low_inside n s f)
    ∙ ap₂ said_slice a b
