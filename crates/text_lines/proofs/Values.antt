-- What a value says for its key, and a line by the key that it begins with.
--     characters_many, characters-other, characters_right     more than 64 characters, not one for each chain, or one for each
--     valued_decimal, valued_hexadecimal, valued_chainwise     a value, by the notation of its key
--     keyed_long, keyed-value          a line with a key, by its length
--     formed_known, formed_unknown     a line, by its key
-- Assumes nothing.
use Rattle.std.specs.Prelude.{None, Some}
use mathlib.Core.Path.{◌≡◌}
use mathlib.Core.List.{List}
use Prim.Native.Nat.{ℕ, ◌+◌, ◌≤◌, ◌<◌}
use native.Mathlib.Omega.{arith}
use borrow.Author.Tests.{le-leb, lt-leb, eq-eqb, ne_eqb}
use lib.ListN.{length, drop}
use Rattle.text_keys.specs.Keys.{rows, name, notation, longest}
use Rattle.text_key_of.specs.Begins.{key_of}
use Rattle.text_keys.specs.declared.Key.{Key}
use Rattle.text_keys.specs.declared.Notation.TheVariants.{Decimal, Hexadecimal, Chainwise}
use Rattle.text_numbers.specs.Numbers.{number}
use Rattle.text_characters.specs.Characters.{slice_of}
use Rattle.text_lines.specs.Form.{numbered, sliced, characters, valued, keyed, named, formed}
use Rattle.text_keys.specs.declared.LineCause.TheVariants.{Form}
use Rattle.text_lines.specs.declared.Line.TheVariants.{Refused}

module _ (chains : ℕ) (k : Key) (l : List ℕ) where
  pub characters_many : 64 < length l → characters chains k l ≡ Refused Form
  unfolding characters
  characters_many h = rw (lt-leb (length l) 64 h, characters)

  pub characters-other : length l ≤ 64 → (length l ≡ chains → ⊥) → characters chains k l ≡ Refused Form
  unfolding characters
  characters-other h e = rw (le-leb _ _ h, ne_eqb _ _ e, characters)

  pub characters_right : length l ≤ 64 → length l ≡ chains → characters chains k l ≡ sliced k (slice_of l)
  unfolding characters
  characters_right h e = rw (le-leb _ _ h, eq-eqb _ _ e, characters)

  pub valued_decimal : notation k ≡ Decimal → valued chains k l ≡ numbered k (number 10 4 l)
  unfolding valued
  valued_decimal e = rw (e, valued)

  pub valued_hexadecimal : notation k ≡ Hexadecimal → valued chains k l ≡ numbered k (number 16 16 l)
  unfolding valued
  valued_hexadecimal e = rw (e, valued)

  pub valued_chainwise : notation k ≡ Chainwise → valued chains k l ≡ characters chains k l
  unfolding valued
  valued_chainwise e = rw (e, valued)

  pub keyed_long : longest k ≤ length l → keyed chains k l ≡ Refused Form
  unfolding keyed
  keyed_long h = rw (lt-leb (length l + 1) (longest k) (omega arith), keyed)

  pub keyed-value : length l < longest k → keyed chains k l ≡ valued chains k (drop (length (name k)) l)
  unfolding keyed
  keyed-value h = rw (le-leb (length l + 1) (longest k) (omega arith), keyed)

  pub formed_known : key_of rows l ≡ Some k → formed chains l ≡ keyed chains k l
  unfolding formed named
  formed_known e = rw (e, named)

pub formed_unknown : (chains : ℕ) (l : List ℕ) → key_of rows l ≡ None → formed chains l ≡ Refused Form
unfolding formed named
formed_unknown chains l e = rw (e, named)
