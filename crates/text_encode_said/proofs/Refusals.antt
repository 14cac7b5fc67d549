-- The numbers of refused encodings: whatever holds of the numbers of the causes holds of them.
--     list_refused     the reply to an encoding
-- Assumes nothing.
use Rattle.std.specs.Prelude.{Result, Err, Ok}
use Rattle.encoder_meaning.specs.declared.Encoded.{Encoded}
use mathlib.Core.Path.{◌≡◌, refl}
use mathlib.Core.List.{List}
use Prim.Native.Nat.{ℕ}
use Rattle.refusal_causes.specs.declared.Cause.{Cause}
use Rattle.refusal_causes.specs.Sheet.{refusal_of}
use Rattle.text_replies.specs.Replies.{RefusedBy}
use Rattle.text_encode_said.specs.Encoded.{list_reply}

module _ (P : ℕ → Type 0) where
  pub list_refused : (head : List ℕ) (chains slices : ℕ) (buffer : List ℕ) (a : Result Encoded Cause) → ((c : Cause) → a ≡ Err c → P (refusal_of c).number) → RefusedBy P (list_reply head chains slices buffer a)
  unfolding list_reply
  list_refused head chains slices buffer (Ok e) f = tt
  list_refused head chains slices buffer (Err c) f = f c refl
