-- What the reply to a seed list means (document 01, "Register and chains", "Sheet and seed list" and its refusal sheet; demands 1 and 2).
--     list_of s            the entries of the seed list s
--     slices_in s          the total that it says
--     list_faults_of s      which of causes 1, 2, 3 and 5 hold over the whole list
--     ran_of s             what its seeds deliver, one after another, by the published register rule: their slices, or the cause of the first refused seed, or 14 where nothing is left for the last one
--     ListMeaning s r     what the reply r says of the list s
use Rattle.std.specs.Prelude.{◌≡◌, List, ℕ, length, Err, Ok}
use Rattle.refusal_causes.specs.declared.Cause.{Cause}
use Rattle.refusal_causes.specs.declared.Cause.TheVariants as cause
use Rattle.refusal_causes.specs.declared.Refusal.{Refusal}
use Rattle.refusal_causes.specs.Sheet.{refusal_of}
use Rattle.refusal_order.specs.Order.{judged}
use Rattle.refusal_order.specs.declared.Faults.{Faults}
use Rattle.refusal_checks.specs.Calls.{list_faults}
use Rattle.machine_settings.specs.Machine.{machine}
use Rattle.theory_covering.specs.Rules.{rules}
use Rattle.expander_meaning.specs.Expanding.{Walk, ran, failed, walk}
use Rattle.text_keys.specs.declared.Key.TheVariants as key
use Rattle.text_lines.specs.declared.Entry.{Entry}
use Rattle.text_order.specs.declared.Kind.TheVariants.{SeedList}
use Rattle.text_entries.specs.Said.{masks_of, number_for, slice_for, settings_of}
use Rattle.text_reading.specs.Reading.{reading_of}
use Rattle.text_expand.specs.List.{seeds_of}
use Rattle.text_write_slices.specs.Slices.{slice_lines}
use Rattle.text_replies.specs.Replies.{Reply, text, refused}
use Rattle.text_meaning.specs.Sheets.{StopsAt, ReadThrough}

abbrev pub list_of : List ℕ → List Entry
list_of s = (reading_of SeedList s).entries

abbrev pub slices_in : List ℕ → ℕ
slices_in s = number_for key.Slices (list_of s)

abbrev pub list_faults_of : List ℕ → Faults
list_faults_of s = list_faults (settings_of (list_of s)) (masks_of (list_of s)) (slice_for key.Stop (list_of s)) (slices_in s) (length (seeds_of (list_of s)))

abbrev pub ran_of : List ℕ → Walk
ran_of s = walk (machine (settings_of (list_of s)) (masks_of (list_of s))) (rules (settings_of (list_of s)) (slice_for key.Stop (list_of s))) (slices_in s) 0 0 (seeds_of (list_of s))

-- The first refused line; then the first of causes 1, 2, 3 and 5 that holds over the whole; then the first refused seed, or nothing left for the last; then 14; otherwise the slices of the register rule, a line each.
pub record ListMeaning (s : List ℕ) (r : Reply) : Type 0 where
  pub line : (c : Refusal) → (reading_of SeedList s).end ≡ Err c → StopsAt SeedList s c × (r ≡ refused c)
  pub unformed : ReadThrough SeedList s → (c : Cause) → judged (list_faults_of s) ≡ Err c → r ≡ refused (refusal_of c)
  pub seed : ReadThrough SeedList s → judged (list_faults_of s) ≡ Ok tt → (c : Cause) → ran_of s ≡ failed c → r ≡ refused (refusal_of c)
  pub total : ReadThrough SeedList s → judged (list_faults_of s) ≡ Ok tt → (vs : List ℕ) → ran_of s ≡ ran vs → (length vs ≡ slices_in s → ⊥) → r ≡ refused (refusal_of (cause.Total (length vs)))
  pub accepted : ReadThrough SeedList s → judged (list_faults_of s) ≡ Ok tt → (vs : List ℕ) → ran_of s ≡ ran vs → length vs ≡ slices_in s → r ≡ text (slice_lines (length (masks_of (list_of s))) vs) (length vs)
