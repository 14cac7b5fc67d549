-- Every cause has a number of the refusal sheet.
-- Assumes nothing.
use native.Mathlib.Omega.{arith}
use Rattle.refusal_causes.specs.Sheet.{refusal_of, OnSheet}
use Rattle.refusal_causes.specs.declared.Cause.{Cause}
use Rattle.refusal_causes.specs.declared.Cause.TheVariants.{Register, Chains, Lengths, TestSlice, StopSlice, AllTaken, NoSeed, NoCutting, NoSpace, SeedBeyond, SeedAtStop, SeedEndless, Line, Total}

pub on_sheet : (c : Cause) → OnSheet (refusal_of c).number
on_sheet Register = (omega arith, omega arith)
on_sheet Chains = (omega arith, omega arith)
on_sheet Lengths = (omega arith, omega arith)
on_sheet TestSlice = (omega arith, omega arith)
on_sheet StopSlice = (omega arith, omega arith)
on_sheet AllTaken = (omega arith, omega arith)
on_sheet NoSeed = (omega arith, omega arith)
on_sheet (NoCutting slices) = (omega arith, omega arith)
on_sheet (NoSpace entries) = (omega arith, omega arith)
on_sheet (SeedBeyond place) = (omega arith, omega arith)
on_sheet (SeedAtStop place) = (omega arith, omega arith)
on_sheet (SeedEndless place) = (omega arith, omega arith)
on_sheet (Line line) = (omega arith, omega arith)
on_sheet (Total found) = (omega arith, omega arith)
