-- From a sheet to its seed list and back to slices (document 01, "Sheet and seed list"; demand 2).
--     sheet_of s           the entries of the sheet s
--     set_of s             its test slices
--     Quoted s stop list n     the list is that of the sheet s with its stop slice and n seeds, than which no covering list is shorter
--     GivesBack s list    expanding the list is accepted with as many slices as the sheet s has, and slice i agrees with slice line i
use Rattle.std.specs.Prelude.{◌≡◌, true, List, ℕ, ◌<◌, length, get_or, Some}
use Rattle.machine_settings.specs.Machine.{machine}
use Rattle.machine_slices.specs.declared.TestSlice.{TestSlice}
use Rattle.machine_slices.specs.Slices.{agrees, paired}
use Rattle.stop_steps.specs.Steps.{stop_for}
use Rattle.theory_covering.specs.Rules.{rules}
use Rattle.encoder_meaning.specs.Meaning.{Shortest}
use Rattle.text_reading.specs.Reading.{reading_of}
use Rattle.text_lines.specs.declared.Entry.{Entry}
use Rattle.text_entries.specs.Said.{masks_of, settings_of}
use Rattle.text_encode.specs.Sheet.{specified_of, bits_of, head_of}
use Rattle.text_order.specs.declared.Kind.TheVariants as kinds
use Rattle.text_write_slices.specs.Slices.{slice_lines}
use Rattle.text_write_list.specs.SeedList.{list_text}
use Rattle.text_replies.specs.Replies.{text}
use Rattle.text_calls.specs.Texts.{expand_reply}

abbrev pub sheet_of : List ℕ → List Entry
sheet_of s = (reading_of kinds.Sheet s).entries

abbrev pub set_of : List ℕ → List TestSlice
set_of s = paired (specified_of (sheet_of s)) (bits_of (sheet_of s))

pub record Quoted (s : List ℕ) (stop : TestSlice) (list : List ℕ) (n : ℕ) : Type 0 where
  pub seeds : List ℕ
  pub printed : list ≡ list_text (head_of (sheet_of s)) (length (masks_of (sheet_of s))) stop (length (specified_of (sheet_of s))) seeds
  pub count : length seeds ≡ n
  pub stopped : stop_for (length (masks_of (sheet_of s))) (set_of s) ≡ Some stop
  pub shortest : Shortest (machine (settings_of (sheet_of s)) (masks_of (sheet_of s))) (rules (settings_of (sheet_of s)) stop) (set_of s) seeds

pub record GivesBack (s list : List ℕ) : Type 0 where
  pub slices : List ℕ
  pub expands : expand_reply list ≡ text (slice_lines (length (masks_of (sheet_of s))) slices) (length slices)
  pub whole : length slices ≡ length (specified_of (sheet_of s))
  pub agree : (i : ℕ) (t : TestSlice) → i < length (specified_of (sheet_of s)) → agrees (get_or (set_of s) i t) (get_or slices i 0) ≡ true
