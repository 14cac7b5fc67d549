-- What a call leaves that writes the list of an encoding (`called`).
--     list_leaves     so it is with a list that is written
-- Assumes nothing.
use Rattle.encoder_meaning.specs.Encoding.{seeds_with}
use Rattle.std.specs.Prelude.{Result}
use Rattle.refusal_causes.specs.declared.Cause.{Cause}
use mathlib.Core.Path.{◌≡◌}
use mathlib.Core.List.{List}
use Prim.Native.Nat.{ℕ, min}
use lib.ListN.{length, take}
use Rattle.std.proofs.lemmas.List.{take_min}
use Rattle.refusal_causes.specs.Outcome.{fill}
use Rattle.machine_slices.specs.declared.TestSlice.{TestSlice}
use Rattle.text_write_list.specs.SeedList.{list_text}
use Rattle.text_encode_said.specs.Encoded.{list_reply}
use Rattle.text_replies.specs.Calls.{answered, written, Answer}
use Rattle.text_replies.proofs.Answering.{Leaves, text_leaves}

module _ (head : List ℕ) (chains slices : ℕ) (seeds out : List ℕ) (stop : TestSlice) (n m : ℕ) (h : m ≡ min n (length seeds)) where
  pub list_leaves : (a : Answer) (w : Result ℕ Cause) (after : List ℕ) → a ≡ answered n w → w ≡ (fill (list_text head chains stop slices (take m seeds)) out).answer → after ≡ (fill (list_text head chains stop slices (take m seeds)) out).buffer
      → Leaves (list_reply head chains slices seeds (seeds_with stop n)) out a after
  unfolding list_reply
  list_leaves a w after e f k =
      let t : take m seeds ≡ take n seeds = rw h (take_min n seeds) in
      text_leaves _ n out a w after e (rw t at f) (rw t at k)
