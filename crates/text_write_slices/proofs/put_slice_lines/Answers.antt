-- `text_write_slices::put_slice_lines` meets its contract. The invariant: the lines of the slices that are left, stored from here on, give what all of them give.
-- Assumes nothing.
use Prim.Native.Nat.{◌+◌}
use native.Mathlib.Omega.{arith}
use lib.ListN.{get_or, drop}
use Rattle.text_keys.specs.Bytes.{bytes}
use Rattle.text_write_characters.specs.Characters.{slice_line}
use Rattle.text_write_slices.specs.Slices.{slice_lines}
use Rattle.text_write_bytes.proofs.Storing.{left-start, left-length, left-fits, left-next, left_end}
use Rattle.text_write_slices.proofs.Slices.{slices_go, slices_end}
use Rattle.text_write_slices.proofs.put_slice_lines.Goals as goal

pub all_chains-specified-requires : goal.all_chains-specified-requires
all_chains-specified-requires c = c.requires.0

pub loop-bits-init : goal.loop-bits-init
loop-bits-init c = left-start

pub put_slice_line-place-requires : goal.put_slice_line-place-requires
put_slice_line-place-requires c =
    let i = c.loop-bits.bits-index in
    let t = c.all_chains-specified in
    let a = c.args in
    let line = slice_line a.chains (bytes "slice=") (record { specified = t.result; bits = get_or a.slices.now i 0 }) in
    let next = slice_lines a.chains (drop (i + 1) a.slices.now) in
    left-fits c.loop-bits.invariant line next (slices_go a.chains a.slices.now i t.result t.ensures (omega arith)) c.requires.1

pub loop-bits-preserved : goal.loop-bits-preserved
loop-bits-preserved c =
    let t = c.all_chains-specified in
    let a = c.args in
    left-next c.loop-bits.invariant (slices_go a.chains a.slices.now c.loop-bits.bits-index t.result t.ensures (omega arith)) c.put_slice_line-place.ensures

pub shape_of-out : goal.shape_of-out
shape_of-out c = left-length c.loop-bits.invariant

pub returns : goal.returns
returns c =
    let a = c.args in
    left_end c.loop-bits.invariant (slices_end a.chains a.slices.now c.loop-bits.bits-index (omega arith))
