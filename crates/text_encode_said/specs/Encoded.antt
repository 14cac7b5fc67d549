-- The reply to what a sheet says (document 01, "Sheet and seed list").
--     list_reply head chains slices buffer a      the reply to an encoding that answers a and leaves the buffer
--     encoded head g masks depth specified bits        the reply to a sheet that says so, with the lines head before depth
use Rattle.refusal_causes.specs.declared.Cause.{Cause}
use Rattle.encoder_meaning.specs.declared.Encoded.{Encoded}
use Rattle.std.specs.Prelude.{List, ℕ, length, take, Result, Ok, Err}
use Rattle.refusal_causes.specs.Sheet.{refusal_of}
use Rattle.machine_settings.specs.declared.Settings.{Settings}
use Rattle.encoder_cubes.specs.Cubes.{CubesOutcome, encode_cubes}
use Rattle.text_write_list.specs.SeedList.{list_text}
use Rattle.text_replies.specs.Replies.{Reply, text, refused, lent}

unfoldable pub list_reply : List ℕ → ℕ → ℕ → List ℕ → Result Encoded Cause → Reply
list_reply head chains slices buffer (Ok e) = text (list_text head chains e.stop slices (take e.seeds buffer)) e.seeds
list_reply head chains slices buffer (Err c) = refused (refusal_of c)

unfoldable pub encoded : List ℕ → Settings → List ℕ → ℕ → List ℕ → List ℕ → Reply
encoded head g masks depth specified bits =
    let o : CubesOutcome = encode_cubes g masks depth specified bits lent in
    list_reply head (length masks) (length specified) o.buffer o.answer
