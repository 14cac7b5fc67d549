-- Lines as they are written, and what those of a seed list say (document 01, "Sheet and seed list").
--     slice_in e            the slice of the entry e
--     value chains e       the value of a line with the entry e, in the notation of its key, where there are so many chains
--     written chains e     the line
--     Spelt chains n e     the entry e has a value in the notation n
--     own_entries stop slices seeds     the entries of a seed list after the lines that it repeats from its sheet
--     Printable            what these lines may be written of
use Rattle.std.specs.Prelude.{◌≡◌, false, List, [], ◌∷◌, ◌++◌, map, ℕ, ◌≤◌, length}
use Rattle.words_bounded.specs.Bounded.{any}
use Rattle.words_gf2.specs.Words.{beyond}
use Rattle.machine_slices.specs.Slices.{bad_slice, bad_stop}
use Rattle.machine_slices.specs.declared.TestSlice.{TestSlice}
use Rattle.refusal_lengths.specs.Lengths.{most_slices, bad_set}
use Rattle.text_keys.specs.declared.Key.TheVariants as key
use Rattle.text_keys.specs.Bytes.{feed}
use Rattle.text_keys.specs.Keys.{name, notation}
use Rattle.text_keys.specs.declared.Notation.{Notation}
use Rattle.text_keys.specs.declared.Notation.TheVariants.{Decimal, Hexadecimal, Chainwise}
use Rattle.text_lines.specs.Form.{entry}
use Rattle.text_lines.specs.declared.Entry.{Entry}
use Rattle.text_write_numbers.specs.Numerals.{numeral}
use Rattle.text_write_characters.specs.Characters.{characters}

abbrev pub slice_in : Entry → TestSlice
slice_in e = record { specified = e.first; bits = e.second }

unfoldable pub value : ℕ → Entry → List ℕ
value chains e = elim (notation e.key) [
  | Decimal ↦ numeral 10 e.first
  | Hexadecimal ↦ numeral 16 e.first
  | Chainwise ↦ characters chains (slice_in e)
]

unfoldable pub written : ℕ → Entry → List ℕ
written chains e = name e.key ++ (value chains e ++ (feed ∷ []))

-- A number of up to 4 decimal digits, a word, a well-formed slice.
abbrev pub Spelt : ℕ → Notation → Entry → Type 0
Spelt chains Decimal e = (e.first ≤ 9999) × (e.second ≡ 0)
Spelt chains Hexadecimal e = (beyond 64 e.first ≡ false) × (e.second ≡ 0)
Spelt chains Chainwise e = (chains ≤ 64) × (bad_slice chains (slice_in e) ≡ false)

unfoldable pub own_entries : TestSlice → ℕ → List ℕ → List Entry
own_entries stop slices seeds =
    entry key.Stop stop.specified stop.bits
    ∷ entry key.Slices slices 0
    ∷ map (λ s. entry key.Seed s 0) seeds

-- What the checks accept, and seeds that are words.
pub record Printable (chains : ℕ) (stop : TestSlice) (slices : ℕ) (seeds : List ℕ) : Type 0 where
  pub chained : chains ≤ 64
  pub stopped : bad_stop chains stop ≡ false
  pub total : bad_set slices ≡ false
  pub few : length seeds ≤ most_slices
  pub words : any (beyond 64) seeds ≡ false
