-- The order of causes (document 01, under its refusal sheet: "Several causes: 1 to 5 in rising order"), written once. It is a list of tests, of which the first that holds answers.
--     Test            whether a cause holds, and the cause
--     tests faults    the tests, in order
--     first_of ts      the first that holds answers
--     judged faults   what the checks answer
use Rattle.std.specs.Prelude.{Bool, true, false, List, [], ◌∷◌, Err, Ok, Result}
use Rattle.refusal_causes.specs.declared.Cause.{Cause}
use Rattle.refusal_causes.specs.declared.Cause.TheVariants as cause
use Rattle.refusal_order.specs.declared.Faults.{Faults}

pub record Test : Type 0 where
  pub holds : Bool
  pub refused : Cause

unfoldable pub tests : Faults → List Test
tests f =
    record { holds = f.register; refused = cause.Register }
    ∷ record { holds = f.chains; refused = cause.Chains }
    ∷ record { holds = f.lengths; refused = cause.Lengths }
    ∷ record { holds = f.slices; refused = cause.TestSlice }
    ∷ record { holds = f.stop; refused = cause.StopSlice }
    ∷ []

unfoldable pub first_of : List Test → Result (Unit {0}) Cause
first_of [] = Ok tt
first_of (t ∷ ts) = elim t.holds [ true ↦ Err t.refused | false ↦ first_of ts ]

unfoldable pub judged : Faults → Result (Unit {0}) Cause
judged f = first_of (tests f)
