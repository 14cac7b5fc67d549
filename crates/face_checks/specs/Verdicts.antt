-- The number of a verdict.
--     number_of verdict              the number of document 01's refusal sheet, or 0 where nothing is refused
use Rattle.refusal_causes.specs.declared.Cause.{Cause}
use Rattle.std.specs.Prelude.{ℕ, Err, Ok, Result}
use Rattle.refusal_causes.specs.Sheet.{refusal_of}

abbrev pub number_of : Result (Unit {0}) Cause → ℕ
number_of (Ok tt) = 0
number_of (Err c) = (refusal_of c).number
