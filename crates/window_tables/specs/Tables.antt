-- The tables of a call: what the search for a seed relies on besides the register, the chains and the stop slice.
--     pattern_of stop masks     the stop slice without its unspecified positions
--     Tabled taps n masks table     the table's first n rows are the masks pulled back, row t through t steps
--     Tables g masks st p all few n     register, chains and the stop slice st are well-formed, and no chain is inverted; p is its pattern; the table of all chains and that of the stop's chains have n rows
--     TablesFor q masks all few n     the same of what is asked of a seed
use Rattle.std.specs.Prelude.{◌≡◌, false, List, map, ℕ, ◌*◌, ◌≤◌, ◌<◌, length}
use Rattle.machine_settings.specs.declared.Settings.{Settings}
use Rattle.machine_settings.specs.Machine.{none_inverted}
use Rattle.machine_register.specs.Register.{bad_register, pulls}
use Rattle.machine_chains.specs.Chains.{bad_chains}
use Rattle.machine_slices.specs.declared.TestSlice.{TestSlice}
use Rattle.machine_slices.specs.Slices.{bad_stop}
use Rattle.search_rows.specs.declared.Pattern.{Pattern}
use Rattle.search_rows.specs.Rows.{row}
use Rattle.search_table.specs.Chosen.{chosen, packed}
use Rattle.window_tables.specs.declared.Sought.{Sought}

abbrev pub pattern_of : TestSlice → List ℕ → Pattern
pattern_of stop masks = record {
  columns = length (chosen stop.specified masks);
  bits = packed stop.specified stop.bits (length masks);
}

pub record Tabled (taps n : ℕ) (masks table : List ℕ) : Type 0 where
  pub long : n * length masks ≤ length table
  pub rows : (t : ℕ) → t < n → row (length masks) table t ≡ map (pulls taps t) masks

pub record Tables (g : Settings) (masks : List ℕ) (st : TestSlice) (p : Pattern) (all few : List ℕ) (n : ℕ) : Type 0 where
  pub register : bad_register g.cells g.taps ≡ false
  pub chains : bad_chains g.cells masks ≡ false
  pub upright : g.invert ≡ none_inverted
  pub stop : bad_stop (length masks) st ≡ false
  pub pattern : p ≡ pattern_of st masks
  pub table : Tabled g.taps n masks all
  pub stops : Tabled g.taps n (chosen st.specified masks) few

abbrev pub TablesFor : Sought → List ℕ → List ℕ → List ℕ → ℕ → Type 0
TablesFor q masks all few n = Tables q.settings masks q.stop q.pattern all few n
