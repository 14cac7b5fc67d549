-- What only contracts of functions inside the crate cite.
--     entry_of taps masks table i     what stands in the table at i: a mask of the first row, or that of the row before pulled back
use Rattle.std.specs.Prelude.{true, false, List, ℕ, ◌-◌, ltb, get_or, length}
use Rattle.machine_register.specs.Register.{pull}

unfoldable pub entry_of : ℕ → List ℕ → List ℕ → ℕ → ℕ
entry_of taps masks table i = elim (ltb i (length masks)) [ true ↦ get_or masks i 0 | false ↦ pull taps (get_or table (i - length masks) 0) ]
