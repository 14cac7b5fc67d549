-- The shift register (document 01, "Register and chains"; cause 1 of its refusal sheet). A state is a number below 2 ^ cells; cell i has weight 2 ^ i.
--     step cells taps s            one step
--     steps cells taps t s         t steps
--     most_cells                    the most cells
--     bad_register cells taps       cause 1
--     made_of cells taps            what the constructor answers
--     step_of r s                   the step of a register that the code holds; one of more than 64 cells, which the constructor never makes, counts as 64
--     pull taps m, pulls taps t m  the mask that reads before one step, before t steps, what m reads after
use Rattle.refusal_causes.specs.declared.Cause.{Cause}
use Rattle.std.specs.Prelude.{Bool, true, false, not, ◌||◌, ℕ, zero, suc, ◌+◌, ◌-◌, ◌*◌, ◌/◌, ◌%◌, ◌^◌, min, eqb, Err, Ok, Result}
use Rattle.std.specs.Int.Bits.{bit_xor}
use Rattle.words_bounded.specs.Bounded.{within}
use Rattle.words_gf2.specs.Words.{digit, odd, beyond}
use Rattle.refusal_causes.specs.declared.Cause.TheVariants as cause
use Rattle.machine_register.specs.declared.Register.{Register}

abbrev pub most_cells : ℕ
most_cells = 64

-- Cell 0 gets 1 if an odd number of tapped cells hold 1, else 0; each other cell gets what the cell numbered one lower held.
unfoldable pub step : ℕ → ℕ → ℕ → ℕ
step cells taps s = (s * 2 + odd s taps) % 2 ^ cells

unfoldable pub steps : ℕ → ℕ → ℕ → ℕ → ℕ
steps cells taps zero s = s
steps cells taps (suc t) s = step cells taps (steps cells taps t s)

-- Cells not 1 to 64; taps with a bit at or above cells, or without cell cells - 1.
unfoldable pub bad_register : ℕ → ℕ → Bool
bad_register cells taps = not (within 1 most_cells cells) || (beyond cells taps || eqb (digit taps (cells - 1)) 0)

unfoldable pub made_of : ℕ → ℕ → Result Register Cause
made_of cells taps = elim (bad_register cells taps) [
  | true ↦ Err cause.Register
  | false ↦ Ok (record { cells = cells; taps = taps })
]

unfoldable pub step_of : Register → ℕ → ℕ
step_of r s = step (min most_cells r.cells) r.taps s

unfoldable pub pull : ℕ → ℕ → ℕ
pull taps m = bit_xor (m / 2) (taps * (m % 2))

unfoldable pub pulls : ℕ → ℕ → ℕ → ℕ
pulls taps zero m = m
pulls taps (suc t) m = pulls taps t (pull taps m)
