-- The refusal sheet (document 01, "Refusal sheet"): the number of each cause, and what is returned beside it.
--     line_of number value     a line of the sheet
--     refusal_of cause         the line of a cause
--     OnSheet number          a number of the sheet: 1 to 14
use Rattle.std.specs.Prelude.{ℕ, ◌≤◌}
use Rattle.refusal_causes.specs.declared.Cause.{Cause}
use Rattle.refusal_causes.specs.declared.Cause.TheVariants.{Register, Chains, Lengths, TestSlice, StopSlice, AllTaken, NoSeed, NoCutting, NoSpace, SeedBeyond, SeedAtStop, SeedEndless, Line, Total}
use Rattle.refusal_causes.specs.declared.Refusal.{Refusal}

abbrev pub line_of : ℕ → ℕ → Refusal
line_of number value = record { number = number; value = value }

abbrev pub refusal_of : Cause → Refusal
refusal_of Register = line_of 1 0
refusal_of Chains = line_of 2 0
refusal_of Lengths = line_of 3 0
refusal_of TestSlice = line_of 4 0
refusal_of StopSlice = line_of 5 0
refusal_of AllTaken = line_of 6 0
refusal_of NoSeed = line_of 7 0
refusal_of (NoCutting slices) = line_of 8 slices
refusal_of (NoSpace entries) = line_of 9 entries
refusal_of (SeedBeyond place) = line_of 10 place
refusal_of (SeedAtStop place) = line_of 11 place
refusal_of (SeedEndless place) = line_of 12 place
refusal_of (Line line) = line_of 13 line
refusal_of (Total found) = line_of 14 found

abbrev pub OnSheet : ℕ → Type 0
OnSheet number = (1 ≤ number) × (number ≤ 14)
