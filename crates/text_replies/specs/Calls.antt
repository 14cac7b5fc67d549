-- What a text call leaves, which writes into a lent buffer of bytes, and the printing of its answer (document 01, its refusal sheet on cause 9 and on buffers).
--     Answer              what a text call answers: how many bytes it wrote and of how many seeds or slices, or a refusal with such a number
--     written k n, refused_with r n     the two answers
--     TextOutcome         the answer of a call, and the buffer as the call leaves it
--     answered n w        so many bytes of a text with n seeds or slices, or a cause by its number and value, and n beside it
--     called r out        what a call with the reply r leaves: the bytes of its text, then every other byte as it was; cause 9 where there is no space for them
--     Shown               how many bytes of a buffer are printed, and the buffer
--     bytes_of w           how many bytes were written
--     shown a out         the printing of an answer from its buffer: the text that is there, or the refusal
use Rattle.refusal_causes.specs.declared.Cause.{Cause}
use Rattle.std.specs.Prelude.{List, ℕ, Err, Ok, Result}
use Rattle.refusal_causes.specs.Sheet.{refusal_of}
use Rattle.refusal_causes.specs.Outcome.{Outcome, fill}
use Rattle.text_write_refusal.specs.Refused.{refused_text}
use Rattle.text_replies.specs.Replies.{Reply, text, refused}
use Rattle.refusal_causes.specs.declared.Refusal.{Refusal}
use Rattle.text_replies.specs.declared.TextWritten.{TextWritten}
use Rattle.text_replies.specs.declared.TextRefused.{TextRefused}

abbrev pub Answer : Type 0
Answer = Result TextWritten TextRefused

abbrev pub written : ℕ → ℕ → Answer
written k n = Ok (record { bytes = k; entries = n })

abbrev pub refused_with : Refusal → ℕ → Answer
refused_with r n = Err (record { refusal = r; entries = n })

pub record TextOutcome : Type 0 where
  pub answer : Answer
  pub buffer : List ℕ

unfoldable pub answered : ℕ → Result ℕ Cause → Answer
answered n (Ok k) = written k n
answered n (Err c) = refused_with (refusal_of c) n

-- Cause 9 comes last, with the bytes needed and the seeds or slices of the text. A refused call leaves every byte as it was.
unfoldable pub called : Reply → List ℕ → TextOutcome
called (text bs n) out = (let o : Outcome = fill bs out in record { answer = answered n o.answer; buffer = o.buffer })
called (refused r) out = record { answer = refused_with r 0; buffer = out }

pub record Shown : Type 0 where
  pub count : ℕ
  pub buffer : List ℕ

unfoldable pub bytes_of : Result ℕ Cause → ℕ
bytes_of (Ok n) = n
bytes_of (Err c) = 0

unfoldable pub shown : Answer → List ℕ → Shown
shown (Ok t) out = record { count = t.bytes; buffer = out }
shown (Err t) out = (let o : Outcome = fill (refused_text t.refusal) out in record { count = bytes_of o.answer; buffer = o.buffer })
