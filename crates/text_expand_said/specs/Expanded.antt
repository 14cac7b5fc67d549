-- The reply to what a seed list says (document 01, "Sheet and seed list").
--     slices_reply chains buffer a            the reply to an expanding that answers a and leaves the buffer
--     expanded g masks stop slices seeds          the reply to a list that says so
use Rattle.refusal_causes.specs.declared.Cause.{Cause}
use Rattle.std.specs.Prelude.{List, ℕ, length, take, Err, Ok, Result}
use Rattle.refusal_causes.specs.Sheet.{refusal_of}
use Rattle.refusal_causes.specs.Outcome.{Outcome}
use Rattle.machine_settings.specs.declared.Settings.{Settings}
use Rattle.machine_slices.specs.declared.TestSlice.{TestSlice}
use Rattle.expander_meaning.specs.Expanding.{expand_list}
use Rattle.text_write_slices.specs.Slices.{slice_lines}
use Rattle.text_replies.specs.Replies.{Reply, text, refused, lent}

unfoldable pub slices_reply : ℕ → List ℕ → Result ℕ Cause → Reply
slices_reply chains buffer (Ok n) = text (slice_lines chains (take n buffer)) n
slices_reply chains buffer (Err c) = refused (refusal_of c)

unfoldable pub expanded : Settings → List ℕ → TestSlice → ℕ → List ℕ → Reply
expanded g masks stop slices seeds =
    let o : Outcome = expand_list g masks stop slices seeds lent in
    slices_reply (length masks) o.buffer o.answer
