-- What a call leaves that writes the slices of an expanding (`called`).
--     slices_leave     so it is with slices that are written
-- Assumes nothing.
use Rattle.std.specs.Prelude.{Ok, Result}
use Rattle.refusal_causes.specs.declared.Cause.{Cause}
use mathlib.Core.Path.{◌≡◌}
use mathlib.Core.List.{List}
use Prim.Native.Nat.{ℕ, min}
use lib.ListN.{length, take}
use Rattle.std.proofs.lemmas.List.{take_min}
use Rattle.refusal_causes.specs.Outcome.{fill}
use Rattle.text_write_slices.specs.Slices.{slice_lines}
use Rattle.text_expand_said.specs.Expanded.{slices_reply}
use Rattle.text_replies.specs.Calls.{answered, written, Answer}
use Rattle.text_replies.proofs.Answering.{Leaves, text_leaves}

module _ (chains : ℕ) (slices out : List ℕ) (n m : ℕ) (h : m ≡ min n (length slices)) where
  pub slices_leave : (a : Answer) (w : Result ℕ Cause) (after : List ℕ) → a ≡ answered n w → w ≡ (fill (slice_lines chains (take m slices)) out).answer → after ≡ (fill (slice_lines chains (take m slices)) out).buffer
      → Leaves (slices_reply chains slices (Ok n)) out a after
  unfolding slices_reply
  slices_leave a w after e f k =
      let t : take m slices ≡ take n slices = rw h (take_min n slices) in
      text_leaves _ n out a w after e (rw t at f) (rw t at k)
