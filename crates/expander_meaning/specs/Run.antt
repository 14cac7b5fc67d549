-- The run of one seed (document 01, "Register and chains", and causes 10, 11 and 12 of its refusal sheet; document 02, R-5: the last seed).
--     slices_of M m s              the slices 0 .. m - 1 of the state s
--     first_stop M stop d s        the first of the slices 0 .. d - 1 of s that shows the stop, or none
--     Given                       a seed delivers so many slices, or is refused
--     ending place last left o    what a seed at that place delivers whose stop first shows at o. last: it is a last seed that need not close; left: the slices still to come
--     delivers M R stop place last left s     what the seed s at that place delivers
use Rattle.std.specs.Prelude.{Bool, true, false, ◌&&◌, List, [], ◌∷◌, ℕ, zero, suc, min, ltb, leb, None, Option, Some, option_map}
use Rattle.refusal_causes.specs.declared.Cause.{Cause}
use Rattle.refusal_causes.specs.declared.Cause.TheVariants.{SeedBeyond, SeedAtStop, SeedEndless}
use Rattle.machine_settings.specs.Machine.{Machine}
use Rattle.machine_slices.specs.declared.TestSlice.{TestSlice}
use Rattle.machine_slices.specs.Slices.{shows}
use Rattle.theory_covering.specs.Rules.{Rules}

-- Slice 0 of a seed comes from the seed itself before any step, slice t after t steps.
unfoldable pub slices_of : Machine → ℕ → ℕ → List ℕ
slices_of M zero s = []
slices_of M (suc m) s = M.slice s ∷ slices_of M m (M.step s)

unfoldable pub first_stop : Machine → TestSlice → ℕ → ℕ → Option ℕ
first_stop M stop zero s = None
first_stop M stop (suc d) s = elim (shows stop (M.slice s)) [ true ↦ Some 0 | false ↦ option_map suc (first_stop M stop d (M.step s)) ]

pub data Given : Type 0 where
  gives : ℕ → Given
  fails : Cause → Given

unfoldable pub ending : ℕ → Bool → ℕ → Option ℕ → Given
ending place last left (Some zero) = fails (SeedAtStop place)
ending place last left (Some (suc t)) = gives (elim last [ true ↦ min left (suc t) | false ↦ suc t ])
ending place last left None = elim last [ true ↦ gives left | false ↦ fails (SeedEndless place) ]

-- A seed is tested by 10, then 11, then 12; the stop is looked for in slices 0 to limit.
unfoldable pub delivers : Machine → Rules → TestSlice → ℕ → Bool → ℕ → ℕ → Given
delivers M R stop place last left s = elim (ltb s M.states) [
  | true ↦ ending place (last && leb left R.limit) left (first_stop M stop (suc R.limit) s)
  | false ↦ fails (SeedBeyond place)
]
