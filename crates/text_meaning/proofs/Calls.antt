-- What a text call's answer means (`call_means`), by the reply to the text.
--     reply_means     what the reply means
--     called_means    what a call with this reply leaves
-- Assumes nothing.
use mathlib.Core.Path.{◌≡◌, refl, ap, ◌∙◌}
use mathlib.Core.List.{List, ◌++◌}
use Prim.Native.Nat.{ℕ, ◌≤◌, ◌<◌}
use lib.ListN.{length, drop}
use Rattle.refusal_causes.specs.declared.Cause.TheVariants as cause
use Rattle.refusal_causes.specs.declared.Refusal.{Refusal}
use Rattle.refusal_causes.specs.Outcome.{Outcome, refuse}
use Rattle.refusal_causes.specs.Sheet.{refusal_of}
use Rattle.refusal_causes.proofs.Outcome.{fill-whole, fill_short}
use Rattle.text_order.specs.declared.Kind.{Kind}
use Rattle.text_order.specs.declared.Kind.TheVariants.{Sheet, SeedList}
use Rattle.text_replies.specs.Replies.{Reply, text, refused}
use Rattle.text_replies.specs.Calls.{TextOutcome, answered, called, written, refused_with}
use Rattle.text_calls.specs.Texts.{reply_to, call_of}
use Rattle.text_meaning.specs.Calls.{ReplyMeaning, TextMeaning}
use Rattle.text_meaning.proofs.Sheets.{sheet_means}
use Rattle.text_meaning.proofs.Lists.{list_means}

pub reply_means : (kind : Kind) (s : List ℕ) → ReplyMeaning kind s (reply_to kind s)
reply_means Sheet s = sheet_means s
reply_means SeedList s = list_means s

-- What is written of a text with n seeds or slices.
abbrev left : ℕ → Outcome → TextOutcome
left n p = record { answer = answered n p.answer; buffer = p.buffer }

module _ (bs : List ℕ) (n : ℕ) (out : List ℕ) where
  called-whole : length bs ≤ length out → called (text bs n) out ≡ record { answer = written (length bs) n; buffer = bs ++ drop (length bs) out }
  unfolding called answered
  called-whole h = ap (left n) (fill-whole bs out (length bs) refl h)

  called_short : length out < length bs → called (text bs n) out ≡ record { answer = refused_with (refusal_of (cause.NoSpace (length bs))) n; buffer = out }
  unfolding called answered refuse
  called_short h = ap (left n) (fill_short bs out (length bs) refl h)

called_refused : (c : Refusal) (out : List ℕ) → called (refused c) out ≡ record { answer = refused_with c 0; buffer = out }
unfolding called
called_refused c out = refl

module _ (kind : Kind) (s out : List ℕ) (r : Reply) where
  called_means : ReplyMeaning kind s r → TextMeaning kind s out (called r out)
  called_means m = record {
    reply = r;
    means = m;
    accepted = λ bs n e h. ap (λ x. called x out) e ∙ called-whole bs n out h;
    no_space = λ bs n e h. ap (λ x. called x out) e ∙ called_short bs n out h;
    refuses = λ c e. ap (λ x. called x out) e ∙ called_refused c out;
  }

pub call_means : (kind : Kind) (s out : List ℕ) → TextMeaning kind s out (call_of kind s out)
unfolding call_of
call_means kind s out = called_means kind s out (reply_to kind s) (reply_means kind s)
