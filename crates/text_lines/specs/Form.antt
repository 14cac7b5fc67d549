-- What a line says by its form (document 01, "Sheet and seed list").
--     entry k a b          the entry of a line with the key k and the numbers a and b
--     numbered k d         the number d for the key k; without one, a refusal
--     sliced k d           the slice d for the key k; without one, a refusal
--     characters chains k l     the slice that the characters l say for the key k, where there are so many chains
--     valued chains k l    what the value l says for the key k
--     keyed chains k l     what the line l with the key k says
--     named chains n l     what the line l says that begins with the key n
--     formed chains l      what the line l, without its line feed, says by its form
use Rattle.machine_slices.specs.declared.TestSlice.{TestSlice}
use Rattle.std.specs.Prelude.{true, false, ◌&&◌, List, ℕ, ◌+◌, leb, eqb, length, drop, None, Option, Some}
use Rattle.machine_chains.specs.Chains.{most_chains}
use Rattle.text_numbers.specs.Numbers.{number}
use Rattle.text_characters.specs.Characters.{slice_of}
use Rattle.text_keys.specs.Keys.{rows, name, notation, longest}
use Rattle.text_key_of.specs.Begins.{key_of}
use Rattle.text_keys.specs.declared.Key.{Key}
use Rattle.text_keys.specs.declared.Notation.TheVariants.{Decimal, Hexadecimal, Chainwise}
use Rattle.text_keys.specs.declared.LineCause.TheVariants.{Form}
use Rattle.text_lines.specs.declared.Entry.{Entry}
use Rattle.text_lines.specs.declared.Line.{Line}
use Rattle.text_lines.specs.declared.Line.TheVariants.{Said, Refused}

abbrev pub entry : Key → ℕ → ℕ → Entry
entry k a b = record { key = k; first = a; second = b }

unfoldable pub numbered : Key → Option ℕ → Line
numbered k None = Refused Form
numbered k (Some v) = Said (entry k v 0)

unfoldable pub sliced : Key → Option TestSlice → Line
sliced k None = Refused Form
sliced k (Some s) = Said (entry k s.specified s.bits)

-- Exactly one character for each chain, of which there are at most 64.
unfoldable pub characters : ℕ → Key → List ℕ → Line
characters chains k l = elim (leb (length l) most_chains && eqb (length l) chains) [ true ↦ sliced k (slice_of l) | false ↦ Refused Form ]

-- A decimal number has 1 to 4 digits, a hexadecimal one 1 to 16.
unfoldable pub valued : ℕ → Key → List ℕ → Line
valued chains k l = elim (notation k) [
  | Decimal ↦ numbered k (number 10 4 l)
  | Hexadecimal ↦ numbered k (number 16 16 l)
  | Chainwise ↦ characters chains k l
]

-- The line feed counts among the bytes of a line.
unfoldable pub keyed : ℕ → Key → List ℕ → Line
keyed chains k l = elim (leb (length l + 1) (longest k)) [ true ↦ valued chains k (drop (length (name k)) l) | false ↦ Refused Form ]

unfoldable pub named : ℕ → Option Key → List ℕ → Line
named chains None l = Refused Form
named chains (Some k) l = keyed chains k l

unfoldable pub formed : ℕ → List ℕ → Line
formed chains l = named chains (key_of rows l) l
