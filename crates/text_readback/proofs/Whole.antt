-- The seed list that is written for a sheet is read back: the lines that it repeats as the sheet's own, and then its own lines as what they were written of.
--     stop_some       what the checks say of the stop slice
--     own-reads       the list's own lines are read through, wherever a stop line may stand
--     Back s stop slices seeds     what the list says: the sheet's entries before depth, and its own
--     head-picked     what the sheet says for a key of the lines before depth stands there
--     chains_said     there are as many masks as the place behind the head has chains
--     chains_counted      and as the chains line says
--     read-back       the reading of the whole list
-- Assumes nothing.
use Rattle.std.specs.Prelude.{Ok}
use mathlib.Core.Bool.{true, false}
use mathlib.Core.Path.{◌≡◌, refl, sym, ap, subst, ◌∙◌}
use mathlib.Core.List.{List, [], ◌∷◌, ◌++◌, append-nil}
use Prim.Native.Nat.{ℕ, ◌+◌}
use native.Mathlib.Omega.{arith}
use borrow.Author.Tests.{ne_eqb}
use lib.Dec.{eqb}
use lib.ListN.{length}
use Rattle.words_bounded.proofs.Tests.{neither}
use Rattle.machine_slices.specs.Slices.{bad_slice, bad_stop}
use Rattle.machine_slices.specs.declared.TestSlice.{TestSlice}
use Rattle.machine_slices.proofs.Formed.{stop-slice}
use Rattle.refusal_lengths.specs.Lengths.{bad_set}
use Rattle.refusal_lengths.proofs.Lengths.{set-within}
use Rattle.text_keys.specs.Keys.{rows, row_at, name, notation, same, most, range}
use Rattle.text_keys.specs.declared.Key.{Key}
use Rattle.text_keys.specs.declared.Key.TheVariants as key
use Rattle.text_lines.specs.Form.{entry}
use Rattle.text_lines.specs.declared.Entry.{Entry}
use Rattle.text_entries.specs.Said.{numbers_for, masks_of}
use Rattle.text_entries.specs.declared.Part.TheVariants.{First}
use Rattle.text_split.specs.Text.{split}
use Rattle.text_order.specs.Order.{after, missing, may_stand, among, in_order, may_end}
use Rattle.text_order.specs.declared.Kind.TheVariants.{Sheet, SeedList}
use Rattle.text_order.proofs.Heads.{head}
use Rattle.text_order.proofs.Standing.{missing-none, stand_after}
use Rattle.text_place.specs.Places.{start, run_of, moved}
use Rattle.text_place.specs.declared.Place.{Place}
use Rattle.text_place.proofs.Runs.{run_none}
use Rattle.text_ranges.specs.Ranges.{outside}
use Rattle.text_reading.specs.Reading.{reading_of}
use Rattle.text_write_numbers.specs.Lines.{number_line, number_lines}
use Rattle.text_write_characters.specs.Characters.{slice_line}
use Rattle.text_write_list.specs.SeedList.{list_text}
use Rattle.text_readback.specs.Before.{lines_before}
use Rattle.text_readback.specs.Written.{value, written, own_entries, Printable}
use Rattle.text_readback.proofs.Lines.{Reads, line_reads}
use Rattle.text_readback.proofs.Runs.{place_at, accepted_at, seeds_read}
use Rattle.text_readback.proofs.Picked.{picked-append}
use Rattle.text_readback.proofs.Chains.{had, had_of, held_start}
use Rattle.text_readback.proofs.Heads.{last_of, split_plain, Heading, heading}

stop_some : (chains : ℕ) (stop : TestSlice) → bad_stop chains stop ≡ false → eqb stop.specified 0 ≡ false
unfolding bad_stop
stop_some chains stop b = (neither (eqb stop.specified 0) (bad_slice chains stop) b).0

module _ (stop : TestSlice) (slices : ℕ) (seeds : List ℕ) where
  slices_next : (p : Place) (v : ℕ) → in_order SeedList (moved p key.Stop v) key.Slices ≡ true
  unfolding in_order among same after moved
  slices_next p v = let q = moved p key.Stop v in rw (stand_after q SeedList (ne_eqb (run_of p key.Stop + 1) 0 (λ e. omega arith)) (missing-none q refl))

  own-reads : (p : Place) → in_order SeedList p key.Stop ≡ true → same p.last key.Stop ≡ false → Printable p.chains stop slices seeds
      → Reads SeedList p (slice_line p.chains (name key.Stop) stop ++ (number_line 10 (name key.Slices) slices ++ number_lines 16 (name key.Seed) seeds)) (own_entries stop slices seeds)
  unfolding slice_line number_line written value notation range most row_at rows outside run_of moved same in_order may_stand missing after among may_end bad_set own_entries
  own-reads p o n w =
      let at-stop = entry key.Stop stop.specified stop.bits in
      let at-slices = entry key.Slices slices 0 in
      let q = moved p key.Stop stop.specified in
      line_reads SeedList p at-stop
      (accepted_at SeedList p at-stop o (omega (arith, run_none p key.Stop n)) (stop_some p.chains stop w.stopped))
      (w.chained, stop-slice p.chains stop w.stopped) _ _
      (line_reads SeedList q at-slices
      (accepted_at SeedList q at-slices (slices_next p stop.specified) (omega arith) w.total)
      (omega (arith, (set-within slices w.total).1), refl) _ _
      (seeds_read seeds (place_at key.Slices 1 p.cells p.chains) refl refl (omega (arith, w.few)) w.words))

module _ (s : List ℕ) (read : (reading_of Sheet s).end ≡ Ok tt) where
  abbrev sheet : List Entry
  sheet = (reading_of Sheet s).entries

  -- The sheet, cut at depth.
  pub cut : Heading start (split s) sheet
  unfolding reading_of
  cut = heading (split s) start 1 (split_plain s) held_start read

  pub head-picked : (k : Key) → head k ≡ true → numbers_for k sheet ≡ numbers_for k cut.above
  head-picked k h = ap (numbers_for k) cut.parts ∙ picked-append k First cut.above cut.below ∙ ap (λ (l : List ℕ). numbers_for k cut.above ++ l) (cut.tails k First h) ∙ append-nil (numbers_for k cut.above)

  pub chains_said : cut.place.chains ≡ length (masks_of sheet)
  unfolding had had_of head among same
  chains_said = omega (arith, cut.counted, ap length (head-picked key.Chain refl))

  pub chains_counted : (n : ℕ) → numbers_for key.Chains sheet ≡ n ∷ [] → length (masks_of sheet) ≡ n
  unfolding head among same last_of
  chains_counted n e = sym chains_said ∙ cut.said ∙ ap (last_of 0) (sym (head-picked key.Chains refl) ∙ e)

  pub read_back : (stop : TestSlice) (slices : ℕ) (seeds : List ℕ) → Printable (length (masks_of sheet)) stop slices seeds
      → reading_of SeedList (list_text (lines_before key.Depth (split s)) (length (masks_of sheet)) stop slices seeds) ≡ record { entries = cut.above ++ own_entries stop slices seeds; end = Ok tt }
  unfolding reading_of list_text
  read_back stop slices seeds p =
      cut.reads _ (own_entries stop slices seeds) (subst (λ n. Reads SeedList cut.place (slice_line n (name key.Stop) stop ++ (number_line 10 (name key.Slices) slices ++ number_lines 16 (name key.Seed) seeds)) (own_entries stop slices seeds)) chains_said (own-reads stop slices seeds cut.place cut.next cut.fresh (subst (λ n. Printable n stop slices seeds) (sym chains_said) p))) 1
