-- Lines that are written are split from what follows (`split`): no key, no numeral and no character holds a line feed.
--     is_feed           a byte is the line feed
--     plain-append     two texts without a line feed, one after the other
--     name-plain, numeral-plain, characters-plain, value-plain      the parts of a line, and before them glyph-plain, digits-plain, character-plain for theirs
--     line_plain       a line that is written
--     split-feed       a line without a line feed in it, its line feed, and the text after it
-- Assumes nothing.
use mathlib.Core.Bool.{Bool, true, false, not}
use mathlib.Core.Path.{◌≡◌, refl}
use mathlib.Core.List.{List, [], ◌∷◌, ◌++◌}
use Prim.Native.Nat.{ℕ, zero, suc, ◌/◌, ◌%◌}
use native.Mathlib.Omega.{arith}
use borrow.Author.Tests.{ne_eqb, not-true}
use lib.Dec.{eqb, ltb}
use Rattle.words_bounded.specs.Bounded.{any}
use Rattle.words_bounded.proofs.Tests.{neither}
use Rattle.machine_slices.specs.declared.TestSlice.{TestSlice}
use Rattle.text_keys.specs.Bytes.{feed}
use Rattle.text_keys.specs.Keys.{rows, name, notation}
use Rattle.text_keys.specs.declared.Key.{Key}
use Rattle.text_keys.specs.declared.Notation.{Notation}
use Rattle.text_keys.specs.declared.Notation.TheVariants.{Decimal, Hexadecimal, Chainwise}
use Rattle.text_keys.proofs.Table.{every, every_key}
use Rattle.text_lines.specs.declared.Entry.{Entry}
use Rattle.text_split.specs.Text.{line, split}
use Rattle.text_write_numbers.specs.Numerals.{glyph, last_digits, numeral}
use Rattle.text_write_characters.specs.Characters.{character, characters}
use Rattle.text_readback.specs.Written.{slice_in, value}
use Rattle.text_readback.proofs.Numerals.{glyph-above}

abbrev pub is_feed : ℕ → Bool
is_feed b = eqb b feed

plain-append : (l m : List ℕ) → any is_feed l ≡ false → any is_feed m ≡ false → any is_feed (l ++ m) ≡ false
unfolding any
plain-append [] m h g = g
plain-append (b ∷ l) m h g = let a = neither (is_feed b) (any is_feed l) h in rw a.0 (plain-append l m a.1 g)

glyph-plain : (d : ℕ) → any is_feed (glyph d ∷ []) ≡ false
unfolding any
glyph-plain d = rw (ne_eqb (glyph d) feed (λ e. omega (arith, glyph-above d)))

all_plain : every (λ r. not (any is_feed r.name)) rows ≡ true
unfolding any rows every
all_plain = refl

name-plain : (k : Key) → any is_feed (name k) ≡ false
unfolding name
name-plain k = not-true _ (every_key (λ r. not (any is_feed r.name)) all_plain k)

digits-plain : (d base n : ℕ) → any is_feed (last_digits d base n) ≡ false
unfolding any last_digits
digits-plain zero base n = refl
digits-plain (suc d) base n = go (ltb n base) (digits-plain d base (n / base))
  where
    go : (b : Bool) → any is_feed (last_digits d base (n / base)) ≡ false → any is_feed (elim b [ true ↦ glyph n ∷ [] | false ↦ last_digits d base (n / base) ++ (glyph (n % base) ∷ []) ]) ≡ false
    go true h = glyph-plain n
    go false h = plain-append (last_digits d base (n / base)) (glyph (n % base) ∷ []) h (glyph-plain (n % base))

numeral-plain : (base n : ℕ) → any is_feed (numeral base n) ≡ false
unfolding numeral
numeral-plain base n = digits-plain 20 base n

character-plain : (p b : ℕ) → character p b ≡ 10 → ⊥
unfolding character
character-plain zero b e = omega arith
character-plain (suc p) b e = omega arith

characters-plain : (n : ℕ) (s : TestSlice) → any is_feed (characters n s) ≡ false
unfolding any characters
characters-plain zero s = refl
characters-plain (suc n) s =
    rw (ne_eqb (character (s.specified % 2) (s.bits % 2)) feed (character-plain (s.specified % 2) (s.bits % 2))) (characters-plain n (record { specified = s.specified / 2; bits = s.bits / 2 }))

value-plain : (chains : ℕ) (e : Entry) → any is_feed (value chains e) ≡ false
unfolding value
value-plain chains e = go (notation e.key)
  where
    go : (n : Notation) → any is_feed (elim n [ Decimal ↦ numeral 10 e.first | Hexadecimal ↦ numeral 16 e.first | Chainwise ↦ characters chains (slice_in e) ]) ≡ false
    go Decimal = numeral-plain 10 e.first
    go Hexadecimal = numeral-plain 16 e.first
    go Chainwise = characters-plain chains (slice_in e)

pub line_plain : (chains : ℕ) (e : Entry) → any is_feed (name e.key ++ value chains e) ≡ false
line_plain chains e = plain-append (name e.key) (value chains e) (name-plain e.key) (value-plain chains e)

pub split-feed : (l t : List ℕ) → any is_feed l ≡ false → split (l ++ (feed ∷ t)) ≡ line l (split t)
unfolding any split
split-feed [] t h = refl
split-feed (b ∷ l) t h =
    let a = neither (is_feed b) (any is_feed l) h in
    rw (a.0, split, split-feed l t a.1)
