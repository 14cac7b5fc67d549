-- A buffer of `most_text` bytes has space for everything that a program prints.
--     concluded-within     a reply to a reading is no longer than the reply to its entries
--     reply-within     no text of it is longer
--     call_prints      so it leaves its text in the buffer
-- Assumes nothing.
use Rattle.std.specs.Prelude.{Err, Ok, Result}
use Rattle.refusal_causes.specs.declared.Refusal.{Refusal}
use mathlib.Core.Path.{◌≡◌}
use mathlib.Core.List.{List}
use Prim.Native.Nat.{ℕ, ◌≤◌}
use native.Mathlib.Omega.{arith}
use lib.ListN.{length}
use Rattle.text_order.specs.declared.Kind.{Kind}
use Rattle.text_order.specs.declared.Kind.TheVariants.{Sheet, SeedList}
use Rattle.text_reading.specs.Reading.{reading_of}
use Rattle.text_bounds.specs.Bounds.{most_text}
use Rattle.text_bounds.proofs.Values.{text_value}
use Rattle.text_replies.specs.Replies.{Reply, lent}
use Rattle.text_replies.specs.Calls.{shown, Answer}
use Rattle.text_replies.proofs.Space.{Within, Prints, prints}
use Rattle.text_encode_said.specs.Encoded.{encoded}
use Rattle.text_encode_said.proofs.Space.{list_within, encode_long}
use Rattle.text_encode.specs.Sheet.{reply_under, sheet_reply}
use Rattle.text_encode.proofs.Heads.{head-room}
use Rattle.text_expand_said.specs.Expanded.{expanded}
use Rattle.text_expand_said.proofs.Space.{slices_within, expand_long}
use Rattle.text_expand.specs.List.{seed_list_reply}
use Rattle.text_calls.specs.Texts.{concluded, reply_to, printed_for, call_of}
use Rattle.text_calls.proofs.Concluding.{few_numbers}

concluded-within : (most : ℕ) (end : Result (Unit {0}) Refusal) (r : Reply) → Within most r → Within most (concluded end r)
unfolding concluded
concluded-within most (Ok tt) r w = w
concluded-within most (Err c) r w = tt

reply-within : (kind : Kind) (s : List ℕ) → Within most_text (reply_to kind s)
unfolding reply_to sheet_reply reply_under encoded seed_list_reply expanded
reply-within Sheet s = concluded-within most_text (reading_of Sheet s).end _ (list_within _ _ _ _ _ (omega (arith, head-room (reading_of Sheet s).entries (few_numbers Sheet s))) (few_numbers Sheet s).masks (encode_long _ _ _ _ _ lent))
reply-within SeedList s = concluded-within most_text (reading_of SeedList s).end _ (slices_within _ _ _ (few_numbers SeedList s).masks (expand_long _ _ _ _ _ lent))

module _ (kind : Kind) (s out : List ℕ) (h : most_text ≤ length out) (a : Answer) (mid after : List ℕ) (count : ℕ) (c : count ≡ (shown a mid).count) (b : after ≡ (shown a mid).buffer) where
  pub call_prints : a ≡ (call_of kind s out).answer → mid ≡ (call_of kind s out).buffer → Prints (printed_for kind s) out count after
  unfolding call_of printed_for
  call_prints e f = prints most_text (omega (arith, text_value)) out h a mid after count c b (reply_to kind s) (reply-within kind s) e f
