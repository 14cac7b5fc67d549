-- The numbers of refused replies are on the refusal sheet.
--     concluded_refused     whatever holds of the numbers of a reading and of a reply holds of the reply to the reading
--     line_on_sheet         the number of a refused line
--     reply_on_sheet        the number of every reply
-- Assumes nothing.
use Rattle.std.specs.Prelude.{Err, Ok, Result}
use Rattle.refusal_causes.specs.declared.Refusal.{Refusal}
use mathlib.Core.List.{List}
use Prim.Native.Nat.{ℕ}
use Rattle.refusal_causes.specs.Sheet.{OnSheet}
use Rattle.refusal_causes.proofs.Sheet.{on_sheet}
use Rattle.text_lines.specs.declared.Entry.{Entry}
use Rattle.text_order.specs.declared.Kind.{Kind}
use Rattle.text_order.specs.declared.Kind.TheVariants.{Sheet, SeedList}
use Rattle.text_reading.specs.Reading.{reading_of}
use Rattle.text_keys.specs.declared.LineCause.{LineCause}
use Rattle.text_ending.specs.Ending.{cause_of, refused_at}
use Rattle.text_reading.proofs.Refusals.{EndsBy, reading_refused}
use Rattle.text_replies.specs.Replies.{Reply, RefusedBy}
use Rattle.text_encode_said.specs.Encoded.{encoded}
use Rattle.text_encode_said.proofs.Refusals.{list_refused}
use Rattle.text_encode.specs.Sheet.{reply_under, sheet_reply}
use Rattle.text_expand_said.specs.Expanded.{expanded}
use Rattle.text_expand_said.proofs.Refusals.{slices_refused}
use Rattle.text_expand.specs.List.{seed_list_reply}
use Rattle.text_calls.specs.Texts.{reply_of, concluded, reply_to}

module _ (P : ℕ → Type 0) where
  concluded_refused : (end : Result (Unit {0}) Refusal) (r : Reply) → EndsBy P end → RefusedBy P r → RefusedBy P (concluded end r)
  unfolding concluded
  concluded_refused (Ok tt) r e h = h
  concluded_refused (Err c) r e h = e

line_on_sheet : (c : LineCause) (n : ℕ) → OnSheet (refused_at c n).number
line_on_sheet c n = on_sheet (cause_of c 0)

of_on_sheet : (kind : Kind) (es : List Entry) → RefusedBy OnSheet (reply_of kind es)
unfolding sheet_reply reply_under encoded seed_list_reply expanded
of_on_sheet Sheet es = list_refused OnSheet _ _ _ _ _ (λ c e. on_sheet c)
of_on_sheet SeedList es = slices_refused OnSheet _ _ _ (λ c e. on_sheet c)

pub reply_on_sheet : (kind : Kind) (s : List ℕ) → RefusedBy OnSheet (reply_to kind s)
unfolding reply_to
reply_on_sheet kind s = concluded_refused OnSheet _ _ (reading_refused OnSheet line_on_sheet kind s) (of_on_sheet kind (reading_of kind s).entries)
