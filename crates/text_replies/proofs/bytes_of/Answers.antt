-- `text_replies::bytes_of` meets its contract. Assumes nothing.
use Rattle.std.specs.Prelude.{◌≡◌, ℕ, refl, Err, Ok, Result}
use Rattle.std.specs.Result.{result_unwrap_or}
use mathlib.Core.Path.{◌∙◌}
use Rattle.refusal_causes.specs.declared.Cause.{Cause}
use Rattle.text_replies.specs.Calls.{bytes_of}
use Rattle.text_replies.proofs.bytes_of.Goals as goal

or_none : (w : Result ℕ Cause) → result_unwrap_or w 0 ≡ bytes_of w
unfolding bytes_of
or_none (Ok n) = refl
or_none (Err c) = refl

pub returns : goal.returns
returns c = c.unwrap_or.ensures ∙ or_none _
