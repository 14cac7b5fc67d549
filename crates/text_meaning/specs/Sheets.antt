-- What the reply to a sheet means (document 01, "Sheet and seed list", and its refusal sheet; demands 1 to 3).
--     StopsAt kind s c           reading stops at a line with the refusal c, whose value is that line's number
--     ReadThrough kind s         no line is refused
--     sheet_faults s              which of causes 1 to 4 hold over the whole sheet
--     machine_in s, rules_in s stop     the machine and the rules of the sheet
--     Repeats s list             the list has every line of the sheet s that stands before depth, byte for byte, and then its stop line
--     StoppedSheet s stop r      what the reply r says of a sheet whose set has the stop slice
--     SheetMeaning s r           what the reply r says of the sheet s
use Rattle.std.specs.Prelude.{◌≡◌, ◌↔◌, ◌⊎◌, List, ◌++◌, ℕ, ◌+◌, length, Err, None, Ok, Some}
use Rattle.refusal_causes.specs.declared.Cause.{Cause}
use Rattle.refusal_causes.specs.declared.Cause.TheVariants as cause
use Rattle.refusal_causes.specs.declared.Refusal.{Refusal}
use Rattle.refusal_causes.specs.Sheet.{refusal_of}
use Rattle.refusal_order.specs.Order.{judged}
use Rattle.refusal_order.specs.declared.Faults.{Faults}
use Rattle.refusal_checks.specs.Calls.{cubes_faults}
use Rattle.machine_settings.specs.Machine.{Machine, machine}
use Rattle.machine_slices.specs.declared.TestSlice.{TestSlice}
use Rattle.stop_steps.specs.Steps.{stop_for}
use Rattle.stop_steps.specs.Meaning.{NoneGood, SixMeaning}
use Rattle.theory_cutting.specs.Cutting.{Cutting}
use Rattle.theory_covering.specs.Rules.{Rules, rules}
use Rattle.theory_covering.specs.Windows.{Window}
use Rattle.encoder_meaning.specs.Meaning.{Uncut}
use Rattle.text_keys.specs.Keys.{name}
use Rattle.text_keys.specs.declared.Key.TheVariants as key
use Rattle.text_split.specs.Text.{split}
use Rattle.text_order.specs.declared.Kind.{Kind}
use Rattle.text_order.specs.declared.Kind.TheVariants.{Sheet}
use Rattle.text_entries.specs.Said.{masks_of, number_for, settings_of}
use Rattle.text_reading.specs.Reading.{reading_of}
use Rattle.text_encode.specs.Sheet.{specified_of, bits_of}
use Rattle.text_replies.specs.Replies.{Reply, text, refused}
use Rattle.text_readback.specs.Before.{lines_before}
use Rattle.text_roundtrip.specs.RoundTrip.{sheet_of, set_of, Quoted, GivesBack}

-- The lines before it are accepted, one entry each; after the last line, one more.
pub record StopsAt (kind : Kind) (s : List ℕ) (c : Refusal) : Type 0 where
  pub stops : (reading_of kind s).end ≡ Err c
  pub line : c.value ≡ length (reading_of kind s).entries + 1

abbrev pub ReadThrough : Kind → List ℕ → Type 0
ReadThrough kind s = (reading_of kind s).end ≡ Ok tt

abbrev pub sheet_faults : List ℕ → Faults
sheet_faults s = cubes_faults (settings_of (sheet_of s)) (masks_of (sheet_of s)) (number_for key.Depth (sheet_of s)) (specified_of (sheet_of s)) (bits_of (sheet_of s))

abbrev pub machine_in : List ℕ → Machine
machine_in s = machine (settings_of (sheet_of s)) (masks_of (sheet_of s))

abbrev pub rules_in : List ℕ → TestSlice → Rules
rules_in s stop = rules (settings_of (sheet_of s)) stop

abbrev pub Repeats : List ℕ → List ℕ → Type 0
Repeats s list = (others : List ℕ) × (list ≡ lines_before key.Depth (split s) ++ (name key.Stop ++ others))

pub record StoppedSheet (s : List ℕ) (stop : TestSlice) (r : Reply) : Type 0 where
  -- one of two: a seed list, or 8
  pub answered : ((list : List ℕ) × ((n : ℕ) × (r ≡ text list n))) ⊎ ((g : ℕ) × (r ≡ refused (refusal_of (cause.NoCutting g))))
  -- the list has this stop slice and n seeds, no covering list is shorter, it reads back and expands to the sheet's slices, and it repeats the sheet's lines before depth
  pub accepted : (list : List ℕ) (n : ℕ) → r ≡ text list n → Quoted s stop list n × GivesBack s list × Repeats s list
  -- 8, with the slices in the longest start that can be cut
  pub uncut : (g : ℕ) → r ≡ refused (refusal_of (cause.NoCutting g)) → Uncut (machine_in s) (rules_in s stop) (set_of s) g
  -- refused by 8 exactly when the set that the sheet says has no cutting
  pub exactly : ((g : ℕ) × (r ≡ refused (refusal_of (cause.NoCutting g)))) ↔ ((es : List ℕ) → Cutting (Window (machine_in s) (rules_in s stop) (set_of s)) 0 es (length (set_of s)) → ⊥)

-- The first refused line; then the first of causes 1 to 4 that holds over the whole; then 6 exactly where no stop slice is good for the set; otherwise its stop slice, and the list or 8.
pub record SheetMeaning (s : List ℕ) (r : Reply) : Type 0 where
  pub line : (c : Refusal) → (reading_of Sheet s).end ≡ Err c → StopsAt Sheet s c × (r ≡ refused c)
  pub unformed : ReadThrough Sheet s → (c : Cause) → judged (sheet_faults s) ≡ Err c → r ≡ refused (refusal_of c)
  pub unstopped : ReadThrough Sheet s → judged (sheet_faults s) ≡ Ok tt → stop_for (length (masks_of (sheet_of s))) (set_of s) ≡ None
      → (r ≡ refused (refusal_of cause.AllTaken)) × SixMeaning (length (masks_of (sheet_of s))) (set_of s)
  pub exactly : ReadThrough Sheet s → judged (sheet_faults s) ≡ Ok tt → (r ≡ refused (refusal_of cause.AllTaken)) ↔ NoneGood (length (masks_of (sheet_of s))) (set_of s)
  pub stopped : ReadThrough Sheet s → judged (sheet_faults s) ≡ Ok tt → (stop : TestSlice) → stop_for (length (masks_of (sheet_of s))) (set_of s) ≡ Some stop
      → StoppedSheet s stop r
