-- A line that is written is read by its form as what was written (`formed`), whatever its key.
--     name-room        a line has room for its name, a value of 64 bytes and its line feed
--     value-formed     what follows the name is the key's value
--     value_decimal, value_hexadecimal, value_chainwise     the value by its notation
--     single           an entry with one number
--     formed_back      a line is read as what it was written of
-- Assumes nothing.
use mathlib.Core.Bool.{Bool, true}
use mathlib.Core.Path.{◌≡◌, refl, sym, ap, ◌∙◌}
use mathlib.Core.List.{List, ◌++◌}
use Prim.Native.Nat.{ℕ, ◌+◌, ◌≤◌, ◌<◌}
use native.Mathlib.Omega.{arith}
use borrow.Author.Tests.{ltb-true}
use lib.Dec.{ltb}
use lib.ListN.{length, length-append}
use lib.Seq.{drop-append_seam}
use Rattle.words_gf2.proofs.Digits.{no_beyond}
use Rattle.machine_slices.proofs.Formed.{slice-formed}
use Rattle.text_key_of.proofs.Apart.{key_back}
use Rattle.text_keys.specs.Keys.{Row, rows, name, notation, longest}
use Rattle.text_keys.specs.declared.Key.{Key}
use Rattle.text_keys.specs.declared.Notation.{Notation}
use Rattle.text_keys.specs.declared.Notation.TheVariants.{Decimal, Hexadecimal, Chainwise}
use Rattle.text_keys.proofs.Table.{every, every_key}
use Rattle.text_lines.specs.Form.{entry, numbered, sliced, valued, formed}
use Rattle.text_lines.specs.declared.Entry.{Entry}
use Rattle.text_lines.specs.declared.Line.TheVariants.{Said}
use Rattle.text_lines.proofs.Values.{characters_right, valued_decimal, valued_hexadecimal, valued_chainwise, keyed-value, formed_known}
use Rattle.text_write_numbers.specs.Numerals.{numeral}
use Rattle.text_write_characters.specs.Characters.{characters}
use Rattle.text_write_numbers.proofs.Lines.{numeral-length}
use Rattle.text_write_characters.proofs.Characters.{characters-length}
use Rattle.text_readback.specs.Written.{slice_in, value, Spelt}
use Rattle.text_readback.proofs.Numerals.{number_back}
use Rattle.text_readback.proofs.Slices.{slice_back}

roomy : Row → Bool
roomy r = ltb (length r.name + 64) r.longest

all_roomy : every roomy rows ≡ true
unfolding rows every roomy
all_roomy = refl

name-room : (k : Key) → length (name k) + 64 < longest k
unfolding name longest roomy
name-room k = ltb-true _ _ (every_key roomy all_roomy k)

value-formed : (chains : ℕ) (k : Key) (v : List ℕ) → length v ≤ 64 → formed chains (name k ++ v) ≡ valued chains k v
value-formed chains k v h =
    formed_known chains k (name k ++ v) (key_back k v)
    ∙ keyed-value chains k (name k ++ v) (simp length-append (omega (arith, name-room k)))
    ∙ rw drop-append_seam

module _ (chains : ℕ) (e : Entry) where
  pub value_decimal : notation e.key ≡ Decimal → value chains e ≡ numeral 10 e.first
  unfolding value
  value_decimal d = rw (d, value)

  pub value_hexadecimal : notation e.key ≡ Hexadecimal → value chains e ≡ numeral 16 e.first
  unfolding value
  value_hexadecimal d = rw (d, value)

  pub value_chainwise : notation e.key ≡ Chainwise → value chains e ≡ characters chains (slice_in e)
  unfolding value
  value_chainwise d = rw (d, value)

  single : e.second ≡ 0 → entry e.key e.first 0 ≡ e
  single z = ap (entry e.key e.first) (sym z)

  pub formed_back : Spelt chains (notation e.key) e → formed chains (name e.key ++ value chains e) ≡ Said e
  unfolding numbered sliced
  formed_back s = go (notation e.key) refl s
    where
      go : (n : Notation) → notation e.key ≡ n → Spelt chains n e → formed chains (name e.key ++ value chains e) ≡ Said e
      go Decimal d (few, z) =
          ap (λ v. formed chains (name e.key ++ v)) (value_decimal d)
          ∙ value-formed chains e.key (numeral 10 e.first) (omega (arith, numeral-length 10 e.first))
          ∙ valued_decimal chains e.key (numeral 10 e.first) d
          ∙ ap (numbered e.key) (number_back 10 (omega arith) (omega arith) 4 e.first (omega arith) (omega arith) (omega arith))
          ∙ ap Said (single z)
      go Hexadecimal d (word, z) =
          ap (λ v. formed chains (name e.key ++ v)) (value_hexadecimal d)
          ∙ value-formed chains e.key (numeral 16 e.first) (omega (arith, numeral-length 16 e.first))
          ∙ valued_hexadecimal chains e.key (numeral 16 e.first) d
          ∙ ap (numbered e.key) (number_back 16 (omega arith) (omega arith) 16 e.first (omega arith) (omega arith) (omega (arith, no_beyond 64 e.first word)))
          ∙ ap Said (single z)
      go Chainwise d (few, good) =
          let l = characters-length chains (slice_in e) in
          ap (λ v. formed chains (name e.key ++ v)) (value_chainwise d)
          ∙ value-formed chains e.key (characters chains (slice_in e)) (omega arith)
          ∙ valued_chainwise chains e.key (characters chains (slice_in e)) d
          ∙ characters_right chains e.key (characters chains (slice_in e)) (omega arith) l
          ∙ ap (sliced e.key) (slice_back chains (slice_in e) (slice-formed chains (slice_in e) good))
