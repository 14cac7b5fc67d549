-- The total of a walk over the seeds.
--     tally done w              the slices delivered, done of them before the walk, or the cause
use Rattle.refusal_causes.specs.declared.Cause.{Cause}
use Rattle.std.specs.Prelude.{ℕ, ◌+◌, length, Err, Ok, Result}
use Rattle.expander_meaning.specs.Expanding.{Walk, ran, failed}

unfoldable pub tally : ℕ → Walk → Result ℕ Cause
tally done (ran vs) = Ok (done + length vs)
tally done (failed c) = Err c
