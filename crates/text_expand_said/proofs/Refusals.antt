-- The numbers of refused expandings: whatever holds of the numbers of the causes holds of them.
--     slices_refused     the reply to an expanding
-- Assumes nothing.
use Rattle.std.specs.Prelude.{Err, Ok, Result}
use mathlib.Core.Path.{◌≡◌, refl}
use mathlib.Core.List.{List}
use Prim.Native.Nat.{ℕ}
use Rattle.refusal_causes.specs.declared.Cause.{Cause}
use Rattle.refusal_causes.specs.Sheet.{refusal_of}
use Rattle.text_replies.specs.Replies.{RefusedBy}
use Rattle.text_expand_said.specs.Expanded.{slices_reply}

module _ (P : ℕ → Type 0) where
  pub slices_refused : (chains : ℕ) (buffer : List ℕ) (a : Result ℕ Cause) → ((c : Cause) → a ≡ Err c → P (refusal_of c).number) → RefusedBy P (slices_reply chains buffer a)
  unfolding slices_reply
  slices_refused chains buffer (Ok n) f = tt
  slices_refused chains buffer (Err c) f = f c refl
