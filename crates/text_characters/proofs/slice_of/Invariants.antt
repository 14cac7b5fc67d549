-- `text_characters::slice_of` meets its contract. The invariant: the characters that were read say the slice so far, whose numbers have a digit for each.
-- Assumes nothing.
use mathlib.Core.Path.{◌≡◌}
use Prim.Native.Nat.{◌-◌, ◌^◌, ◌≤◌, ◌<◌}
use lib.ListN.{length, drop}
use Rattle.text_characters.specs.Characters.{slice_of}
use Rattle.text_characters.proofs.Slices.{said_slice}
use Rattle.text_characters.proofs.slice_of.Given as goal

abbrev pub invariant-loop-b : goal.invariant-loop-b
invariant-loop-b l =
    let k = length l.yielded in
    (k ≤ length l.value) × (slice_of (drop (length l.value - k) l.value) ≡ said_slice l.specified l.bits) × (l.specified < 2 ^ k) × (l.bits < 2 ^ k)
