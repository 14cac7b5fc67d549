-- What the answer of a text call means, which writes into a lent buffer (document 01's refusal sheet on cause 9 and on buffers).
--     ReplyMeaning kind s r        what the reply r says of the text s
--     TextMeaning kind s out o     what the outcome o of the call says
use Rattle.std.specs.Prelude.{◌≡◌, List, ◌++◌, ℕ, ◌≤◌, ◌<◌, length, drop}
use Rattle.refusal_causes.specs.declared.Cause.TheVariants as cause
use Rattle.refusal_causes.specs.declared.Refusal.{Refusal}
use Rattle.refusal_causes.specs.Sheet.{refusal_of}
use Rattle.text_order.specs.declared.Kind.{Kind}
use Rattle.text_order.specs.declared.Kind.TheVariants.{Sheet, SeedList}
use Rattle.text_replies.specs.Replies.{Reply, text, refused}
use Rattle.text_replies.specs.Calls.{TextOutcome, written, refused_with}
use Rattle.text_meaning.specs.Sheets.{SheetMeaning}
use Rattle.text_meaning.specs.Lists.{ListMeaning}

abbrev pub ReplyMeaning : Kind → List ℕ → Reply → Type 0
ReplyMeaning Sheet s r = SheetMeaning s r
ReplyMeaning SeedList s r = ListMeaning s r

pub record TextMeaning (kind : Kind) (s out : List ℕ) (o : TextOutcome) : Type 0 where
  pub reply : Reply
  pub means : ReplyMeaning kind s reply
  -- accepted: the text stands in the buffer, with its bytes and its seeds or slices told, and every other byte is as it was
  pub accepted : (bs : List ℕ) (n : ℕ) → reply ≡ text bs n → length bs ≤ length out → o ≡ record { answer = written (length bs) n; buffer = bs ++ drop (length bs) out }
  -- 9, only the space is short: the bytes needed, and beside them the seeds or slices that enough space would have given
  pub no_space : (bs : List ℕ) (n : ℕ) → reply ≡ text bs n → length out < length bs → o ≡ record { answer = refused_with (refusal_of (cause.NoSpace (length bs))) n; buffer = out }
  -- refused: every byte is as it was
  pub refuses : (c : Refusal) → reply ≡ refused c → o ≡ record { answer = refused_with c 0; buffer = out }
