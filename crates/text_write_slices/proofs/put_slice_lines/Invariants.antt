-- `text_write_slices::put_slice_lines` meets its contract. The invariant: the lines of the slices that are left, stored from here on, give what all of them give.
-- Assumes nothing.
use lib.ListN.{drop}
use Rattle.text_write_slices.specs.Slices.{slice_lines}
use Rattle.text_write_bytes.proofs.Storing.{Left}
use Rattle.text_write_slices.proofs.put_slice_lines.Given as goal

abbrev pub invariant-loop-bits : goal.invariant-loop-bits
invariant-loop-bits l = Left l.initial.out l.at (slice_lines l.chains l.slices) l.out l.place (slice_lines l.chains (drop l.bits-index l.slices))
