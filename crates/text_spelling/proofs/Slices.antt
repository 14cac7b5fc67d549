-- Slices have one spelling each (`slice_of`, `characters`).
--     character_spelt     a character is the one that is written for what it says
--     Behind b r s        the slice s is said by the character b in front of what r says
--     slice_front         so is a slice that is said with b in front of r
--     slice_spelt         the characters of a slice are those that said it
-- Assumes nothing.
use Rattle.std.specs.Prelude.{None, Option, Some}
use mathlib.Core.Bool.{Bool, true, false, ◌||◌}
use mathlib.Core.Logic.{⊎_elim}
use mathlib.Core.Path.{◌≡◌, refl, ap₂, ◌∙◌}
use mathlib.Core.List.{List, [], ◌∷◌}
use Prim.Native.Nat.{ℕ, ◌+◌, ◌*◌, ◌/◌, ◌%◌}
use native.Mathlib.Omega.{arith}
use borrow.Author.Tests.{eqb-true}
use lib.Dec.{eqb}
use lib.ListN.{length}
use Rattle.words_bounded.proofs.Tests.{either}
use Rattle.machine_slices.specs.declared.TestSlice.{TestSlice}
use Rattle.text_characters.specs.Characters.{is_character, specified_at, bit_at, in_front, slice_of}
use Rattle.text_characters.proofs.Slices.{said_slice, specified_lt, bit_lt}
use Rattle.text_write_characters.specs.Characters.{character, characters}

character_spelt : (b : ℕ) → is_character b ≡ true → character (specified_at b) (bit_at b) ≡ b
unfolding is_character specified_at bit_at character
character_spelt b e =
    ⊎_elim
    (λ u. ⊎_elim (λ t. rw (eqb-true b 48 t)) (λ t. rw (eqb-true b 49 t)) (either (eqb b 48) (eqb b 49) u))
    (λ t. rw (eqb-true b 120 t))
    (either (eqb b 48 || eqb b 49) (eqb b 120) e)

nothing_slice : (s : TestSlice) → None ≡ Some s → ⊥
nothing_slice s e = let z : ◌≡◌ {A = ℕ} 0 1 = cc in omega arith

record Behind (b : ℕ) (r : Option TestSlice) (s : TestSlice) : Type 0 where
  slice : TestSlice
  said : r ≡ Some slice
  fits : is_character b ≡ true
  specified : s.specified ≡ slice.specified * 2 + specified_at b
  bits : s.bits ≡ slice.bits * 2 + bit_at b

slice_front : (b : ℕ) (r : Option TestSlice) (s : TestSlice) → in_front b r ≡ Some s → Behind b r s
unfolding in_front
slice_front b None s e = absurd (nothing_slice s e)
slice_front b (Some t) s e = go (is_character b) refl e
  where
    go : (c : Bool) → is_character b ≡ c → elim c [ true ↦ said_slice (t.specified * 2 + specified_at b) (t.bits * 2 + bit_at b) | false ↦ None ] ≡ Some s → Behind b (Some t) s
    go true c e = let q : s ≡ record { specified = t.specified * 2 + specified_at b; bits = t.bits * 2 + bit_at b } = cc in rw q (record { slice = t; said = refl; fits = c; specified = refl; bits = refl })
    go false c e = absurd (nothing_slice s e)

pub slice_spelt : (l : List ℕ) (s : TestSlice) → slice_of l ≡ Some s → characters (length l) s ≡ l
unfolding slice_of characters
slice_spelt [] s e = refl
slice_spelt (b ∷ l) s e =
    let f = slice_front b (slice_of l) s e in
    let p : s.specified % 2 ≡ specified_at b = omega (arith, f.specified, specified_lt b) in
    let q : s.bits % 2 ≡ bit_at b = omega (arith, f.bits, bit_lt b) in
    let v : s.specified / 2 ≡ f.slice.specified = omega (arith, f.specified, specified_lt b) in
    let w : s.bits / 2 ≡ f.slice.bits = omega (arith, f.bits, bit_lt b) in
    ap₂ (λ (x : ℕ) (y : List ℕ). x ∷ y)
    (ap₂ character p q ∙ character_spelt b f.fits)
    (ap₂ (λ (x y : ℕ). characters (length l) (record { specified = x; bits = y })) v w ∙ slice_spelt l f.slice f.said)
