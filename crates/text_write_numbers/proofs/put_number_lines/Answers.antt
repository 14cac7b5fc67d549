-- `text_write_numbers::put_number_lines` meets its contract. The invariant: the lines of the numbers that are left, stored from here on, give what all of them give.
-- Assumes nothing.
use Prim.Native.Nat.{◌+◌}
use native.Mathlib.Omega.{arith}
use lib.ListN.{get_or, drop}
use Rattle.text_write_numbers.specs.Lines.{number_line, number_lines}
use Rattle.text_write_bytes.proofs.Storing.{left-start, left-length, left-fits, left-next, left_end}
use Rattle.text_write_numbers.proofs.Lines.{lines_go, lines_end}
use Rattle.text_write_numbers.proofs.put_number_lines.Goals as goal

pub loop-number-init : goal.loop-number-init
loop-number-init c = left-start

pub put_number_line-place-requires : goal.put_number_line-place-requires
put_number_line-place-requires c =
    let i = c.loop-number.number-index in
    let p = c.requires in
    let a = c.args in
    let line = number_line a.base a.key.now (get_or a.numbers.now i 0) in
    let next = number_lines a.base a.key.now (drop (i + 1) a.numbers.now) in
    (p.0, p.1, left-fits c.loop-number.invariant line next (lines_go a.base a.key.now a.numbers.now i (omega arith)) p.2)

pub loop-number-preserved : goal.loop-number-preserved
loop-number-preserved c =
    let a = c.args in
    left-next c.loop-number.invariant (lines_go a.base a.key.now a.numbers.now c.loop-number.number-index (omega arith)) c.put_number_line-place.ensures

pub shape_of-out : goal.shape_of-out
shape_of-out c = left-length c.loop-number.invariant

pub returns : goal.returns
returns c =
    let a = c.args in
    left_end c.loop-number.invariant (lines_end a.base a.key.now a.numbers.now c.loop-number.number-index (omega arith))
