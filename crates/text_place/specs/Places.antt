-- How far a text is read (document 01, "Sheet and seed list").
--     start            the place before the first line: no line yet with the first key
--     run_of p k        how many lines with the key k stand in a row before the place p
--     number_if c v n   v where c holds, else n
--     moved p k v      the place after a line with the key k and the number v
use Rattle.std.specs.Prelude.{Bool, true, false, ℕ, ◌+◌}
use Rattle.text_keys.specs.Keys.{same}
use Rattle.text_keys.specs.declared.Key.{Key}
use Rattle.text_keys.specs.declared.Key.TheVariants as key
use Rattle.text_place.specs.declared.Place.{Place}

abbrev pub start : Place
start = record { last = key.Cells; run = 0; cells = 0; chains = 0 }

unfoldable pub run_of : Place → Key → ℕ
run_of p k = elim (same p.last k) [ true ↦ p.run | false ↦ 0 ]

abbrev pub number_if : Bool → ℕ → ℕ → ℕ
number_if c v n = elim c [ true ↦ v | false ↦ n ]

unfoldable pub moved : Place → Key → ℕ → Place
moved p k v = record { last = k; run = run_of p k + 1; cells = number_if (same k key.Cells) v p.cells; chains = number_if (same k key.Chains) v p.chains }
