-- What one seed delivers, as the code's answer.
--     told d                      a number of slices, or the cause of its refusal
--     looked_at limit unclosed left    how many slices of a seed are looked at for its stop: one beyond the limit, or what is left where it is unclosed, that is, a last seed that need not close; slice 0 always
use Rattle.refusal_causes.specs.declared.Cause.{Cause}
use Rattle.std.specs.Prelude.{Bool, true, false, ℕ, suc, max, Err, Ok, Result}
use Rattle.expander_meaning.specs.Run.{Given, gives, fails}

unfoldable pub told : Given → Result ℕ Cause
told (gives m) = Ok m
told (fails c) = Err c

unfoldable pub looked_at : ℕ → Bool → ℕ → ℕ
looked_at limit true left = max 1 left
looked_at limit false left = suc limit
