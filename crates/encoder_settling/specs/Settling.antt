-- The answer for the windows that were gathered.
--     settled n r seeds out         the outcome of r for a set of n slices: the seeds, cause 8 with the place where it is stuck, or cause 9
use Rattle.std.specs.Prelude.{true, false, List, ℕ, ltb, take}
use Rattle.refusal_causes.specs.Outcome.{Outcome, refuse, fill}
use Rattle.encoder_settling.specs.declared.Gathered.{Gathered}
use Rattle.refusal_causes.specs.declared.Cause.TheVariants as cause

unfoldable pub settled : ℕ → Gathered → List ℕ → List ℕ → Outcome
settled n r seeds out = elim (ltb r.place n) [ true ↦ refuse (cause.NoCutting r.place) out | false ↦ fill (take r.count seeds) out ]
