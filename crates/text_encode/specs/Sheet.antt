-- The reply to what a sheet says (document 01, "Sheet and seed list").
--     specified_of es, bits_of es     the specified positions and the bits that the slice lines say
--     head_of es                     the lines that its list repeats
--     reply_under head es            the reply to the entries of a sheet, under these lines
--     sheet_reply es                 the reply to them
use Rattle.std.specs.Prelude.{List, ℕ}
use Rattle.text_keys.specs.declared.Key.TheVariants as key
use Rattle.text_lines.specs.declared.Entry.{Entry}
use Rattle.text_entries.specs.Said.{masks_of, inverts_of, windows_of, numbers_for, bits_for, number_for, settings_of}
use Rattle.text_write_head.specs.Head.{head_text}
use Rattle.text_replies.specs.Replies.{Reply}
use Rattle.text_encode_said.specs.Encoded.{encoded}

abbrev pub specified_of : List Entry → List ℕ
specified_of es = numbers_for key.Slice es

abbrev pub bits_of : List Entry → List ℕ
bits_of es = bits_for key.Slice es

abbrev pub head_of : List Entry → List ℕ
head_of es = head_text (settings_of es) (masks_of es) (inverts_of es) (windows_of es)

unfoldable pub reply_under : List ℕ → List Entry → Reply
reply_under head es = encoded head (settings_of es) (masks_of es) (number_for key.Depth es) (specified_of es) (bits_of es)

unfoldable pub sheet_reply : List Entry → Reply
sheet_reply es = reply_under (head_of es) es
