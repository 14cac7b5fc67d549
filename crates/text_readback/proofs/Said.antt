-- What the entries of the seed list say, by their keys: for the lines that are repeated what the sheet's own say, and for its own lines what they were written of.
--     settings_back, masks_back      what the sheet says before depth
--     seeds_back, slices_back, stop_back      the list's own numbers
-- Assumes nothing.
use Rattle.std.specs.Prelude.{Ok}
use mathlib.Core.Bool.{true, false}
use mathlib.Core.Path.{◌≡◌, refl, sym, ap, ap₂, ◌∙◌}
use mathlib.Core.List.{List, [], ◌++◌, append-nil}
use Prim.Native.Nat.{ℕ}
use lib.ListN.{get_or}
use Rattle.machine_slices.specs.declared.TestSlice.{TestSlice}
use Rattle.text_keys.specs.Keys.{same}
use Rattle.text_keys.specs.declared.Key.{Key}
use Rattle.text_keys.specs.declared.Key.TheVariants as key
use Rattle.text_lines.specs.declared.Entry.{Entry}
use Rattle.text_entries.specs.Said.{picked, numbers_for, masks_of, number_for, slice_for, settings_of}
use Rattle.text_entries.specs.declared.Part.{Part}
use Rattle.text_entries.specs.declared.Part.TheVariants.{First, Second}
use Rattle.text_split.specs.Text.{split}
use Rattle.text_order.specs.Order.{among}
use Rattle.text_order.specs.declared.Kind.TheVariants.{Sheet}
use Rattle.text_order.proofs.Heads.{head}
use Rattle.text_place.specs.Places.{start}
use Rattle.text_reading.specs.Reading.{reading_of}
use Rattle.text_readback.specs.Written.{own_entries}
use Rattle.text_readback.proofs.Picked.{picked-append, picked_none, picked_all}
use Rattle.text_readback.proofs.Heads.{Heading}
use Rattle.text_readback.proofs.Whole.{cut, head-picked}

module _ (s : List ℕ) (read : (reading_of Sheet s).end ≡ Ok tt) (stop : TestSlice) (slices : ℕ) (seeds : List ℕ) where
  abbrev sheet : List Entry
  sheet = (reading_of Sheet s).entries

  abbrev above : Heading start (split s) sheet
  above = cut s read

  abbrev own : List Entry
  own = own_entries stop slices seeds

  abbrev listed : List Entry
  listed = above.above ++ own

  -- A key of the lines that are repeated.
  head_back : (k : Key) → head k ≡ true → numbers_for k own ≡ [] → numbers_for k listed ≡ numbers_for k sheet
  head_back k e o =
      picked-append k First above.above own
      ∙ ap (λ (l : List ℕ). numbers_for k above.above ++ l) o
      ∙ append-nil (numbers_for k above.above)
      ∙ sym (head-picked s read k e)

  -- A key of the list's own lines.
  own_back : (k : Key) (p : Part) → head k ≡ false → picked k p listed ≡ picked k p own
  own_back k p e = picked-append k p above.above own ∙ ap (λ (l : List ℕ). l ++ picked k p own) (above.heads k p e)

  pub masks_back : masks_of listed ≡ masks_of sheet
  unfolding head among same own_entries picked
  masks_back = head_back key.Chain refl (picked_none key.Chain First key.Seed refl seeds)

  pub settings_back : settings_of listed ≡ settings_of sheet
  unfolding head among same own_entries picked
  settings_back =
      rw (
        head_back key.Cells refl (picked_none key.Cells First key.Seed refl seeds),
        head_back key.Taps refl (picked_none key.Taps First key.Seed refl seeds),
        head_back key.Window refl (picked_none key.Window First key.Seed refl seeds),
        head_back key.Invert refl (picked_none key.Invert First key.Seed refl seeds),
      )

  pub seeds_back : numbers_for key.Seed listed ≡ seeds
  unfolding head among same own_entries picked
  seeds_back = own_back key.Seed First refl ∙ picked_all key.Seed key.Seed refl seeds

  pub slices_back : number_for key.Slices listed ≡ slices
  unfolding head among same own_entries picked
  slices_back = ap (λ l. get_or l 0 0) (own_back key.Slices First refl)

  pub stop_back : slice_for key.Stop listed ≡ stop
  unfolding head among same own_entries picked
  stop_back =
      ap₂ (λ (a b : ℕ). record { specified = a; bits = b })
      (ap (λ l. get_or l 0 0) (own_back key.Stop First refl))
      (ap (λ l. get_or l 0 0) (own_back key.Stop Second refl))
