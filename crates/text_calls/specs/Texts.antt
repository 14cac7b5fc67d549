-- The programs and the calls on texts, from bytes to bytes (document 01, "Sheet and seed list" and its refusal sheet).
--     reply_of kind es        the reply to the entries of a text
--     concluded end reply    the refusal of a reading, or the reply to its entries
--     reply_to kind s         the reply to the bytes s
--     printed_for kind s      what the program prints
--     call_of kind s out      the call, which writes into a lent buffer of bytes
--     encode_reply, encode_text, encode_call     those of a sheet
--     expand_reply, expand_text, expand_call     those of a seed list
use Rattle.refusal_causes.specs.declared.Refusal.{Refusal}
use Rattle.std.specs.Prelude.{List, ℕ, Err, Ok, Result}
use Rattle.text_lines.specs.declared.Entry.{Entry}
use Rattle.text_order.specs.declared.Kind.{Kind}
use Rattle.text_order.specs.declared.Kind.TheVariants.{Sheet, SeedList}
use Rattle.text_reading.specs.Reading.{reading_of}
use Rattle.text_replies.specs.Replies.{Reply, refused, printed}
use Rattle.text_replies.specs.Calls.{TextOutcome, called}
use Rattle.text_encode.specs.Sheet.{sheet_reply}
use Rattle.text_expand.specs.List.{seed_list_reply}

abbrev pub reply_of : Kind → List Entry → Reply
reply_of Sheet es = sheet_reply es
reply_of SeedList es = seed_list_reply es

-- Checks over the whole follow those of the lines.
unfoldable pub concluded : Result (Unit {0}) Refusal → Reply → Reply
concluded (Ok tt) reply = reply
concluded (Err r) reply = refused r

unfoldable pub reply_to : Kind → List ℕ → Reply
reply_to kind s = concluded (reading_of kind s).end (reply_of kind (reading_of kind s).entries)

unfoldable pub printed_for : Kind → List ℕ → List ℕ
printed_for kind s = printed (reply_to kind s)

unfoldable pub call_of : Kind → List ℕ → List ℕ → TextOutcome
call_of kind s out = called (reply_to kind s) out

abbrev pub encode_reply : List ℕ → Reply
encode_reply s = reply_to Sheet s

abbrev pub encode_text : List ℕ → List ℕ
encode_text s = printed_for Sheet s

abbrev pub encode_call : List ℕ → List ℕ → TextOutcome
encode_call s out = call_of Sheet s out

abbrev pub expand_reply : List ℕ → Reply
expand_reply s = reply_to SeedList s

abbrev pub expand_text : List ℕ → List ℕ
expand_text s = printed_for SeedList s

abbrev pub expand_call : List ℕ → List ℕ → TextOutcome
expand_call s out = call_of SeedList s out
