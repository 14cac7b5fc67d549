-- From the list of a reading to what the call leaves.
--     most_numbers       how many numbers the list has that keeps the entries
--     kept_entries      the list keeps the entries of the reading
--     few_numbers       there are no more lines of a key than a text can have accepted
--     call-whole        what a call leaves whose text is read through
--     call_refused      and one whose text is refused
-- Assumes nothing.
use Rattle.text_replies.specs.Calls.{refused_with, Answer}
use Rattle.std.specs.Prelude.{Err, Ok, Result}
use mathlib.Core.Path.{◌≡◌, sym, ap, ◌∙◌}
use mathlib.Core.List.{List}
use Prim.Native.Nat.{ℕ}
use native.Mathlib.Omega.{arith}
use lib.ListN.{replicate}
use lib.Seq.{sets}
use Rattle.refusal_causes.specs.declared.Refusal.{Refusal}
use Rattle.text_keys.specs.Keys.{rows, count, row_at, most}
use Rattle.text_keys.specs.declared.Key.TheVariants as key
use Rattle.text_entries.specs.Said.{Few}
use Rattle.text_entries.specs.Flat.{flat, entries_in}
use Rattle.text_entries.specs.declared.Part.TheVariants.{First}
use Rattle.text_entries.proofs.Kept.{kept_back}
use Rattle.text_order.specs.declared.Kind.{Kind}
use Rattle.text_reading.specs.Reading.{reading_of}
use Rattle.text_bounds.proofs.Counting.{lines_few, numbers_few}
use Rattle.text_bounds.proofs.Values.{lines_value}
use Rattle.text_replies.proofs.Answering.{Leaves, refused_leaves}
use Rattle.text_calls.specs.Texts.{reply_of, concluded, reply_to, call_of}

-- How many numbers the list has.
abbrev most_numbers : ℕ
most_numbers = 6357

module _ (kind : Kind) (s : List ℕ) where
  pub kept_entries : (l : List ℕ) → l ≡ sets (replicate most_numbers count) 0 (flat (reading_of kind s).entries) → entries_in l ≡ (reading_of kind s).entries
  kept_entries l e = ap entries_in e ∙ kept_back most_numbers (reading_of kind s).entries (omega (arith, lines_few kind s, lines_value))

  pub few_numbers : Few (reading_of kind s).entries
  unfolding most row_at rows
  few_numbers = record {
    masks = numbers_few kind s key.Chain First;
    inverts = numbers_few kind s key.Invert First;
    windows = numbers_few kind s key.Window First;
    slices = numbers_few kind s key.Slice First;
    seeds = numbers_few kind s key.Seed First;
  }

  module _ (out : List ℕ) (r : Result (Unit {0}) Refusal) (e : r ≡ (reading_of kind s).end) where
    pub call-whole : r ≡ Ok tt → (a : Answer) (after : List ℕ) → Leaves (reply_of kind (reading_of kind s).entries) out a after → (a ≡ (call_of kind s out).answer) × (after ≡ (call_of kind s out).buffer)
    unfolding call_of reply_to concluded
    call-whole w a after l = rw (sym e ∙ w) l

    pub call_refused : (c : Refusal) → r ≡ Err c → (refused_with c 0 ≡ (call_of kind s out).answer) × (out ≡ (call_of kind s out).buffer)
    unfolding call_of reply_to concluded
    call_refused c f = rw (sym e ∙ f) (refused_leaves c out)
