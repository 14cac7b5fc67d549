-- `text_reading::scan` meets its contract. The invariant: what is left of the text, read from here on, fills the list as the whole does. Assumes nothing.
use Prim.Native.Nat.{◌-◌}
use native.Mathlib.Omega.{arith}
use Rattle.text_reading.proofs.Scanning.{left-start, left_long, left_end, left_unended, left_refused, left_step}
use Rattle.text_reading.proofs.scan.Goals as goal

pub loop-at-init : goal.loop-at-init
loop-at-init c = left-start _ _ _

pub line_end-end-requires : goal.line_end-end-requires
line_end-end-requires c = omega arith

pub shape_of-entries-then-text-end : goal.shape_of-entries-then-text-end
shape_of-entries-then-text-end c = left_long _ _ _ _ _ _ _ _ c.loop-at.invariant

pub returns-then-text-end : goal.returns-then-text-end
returns-then-text-end c =
    let p = left_unended _ _ _ _ _ _ _ _ c.loop-at.invariant _ c.line_end-end.ensures c.loop-at-test.true c.if-text-end.true in record { answer = rw c.refused_at.ensures p.0; entries = p.1 }

pub slice_bounds-saying-count : goal.slice_bounds-saying-count
slice_bounds-saying-count c = omega arith

pub shape_of-entries-in_default : goal.shape_of-entries-in_default
shape_of-entries-in_default c = left_long _ _ _ _ _ _ _ _ c.loop-at.invariant

pub returns-in_default : goal.returns-in_default
returns-in_default c =
    let p = left_refused _ _ _ _ _ _ _ _ c.loop-at.invariant _ c.line_end-end.ensures c.if-text-end.false _ c.saying-line.ensures _ c.in_default.is in record { answer = rw c.refusal_of_line.ensures p.0; entries = p.1 }

pub moved-place-requires : goal.moved-place-requires
moved-place-requires c = let w = c.loop-at.invariant in omega (arith, c.if-text-end.false, c.line_end-end.ensures, w.lines, w.counted)

pub overflow_add-at : goal.overflow_add-at
overflow_add-at c = let w = c.loop-at.invariant in omega (arith, c.if-text-end.false, c.line_end-end.ensures, w.lines, w.counted)

pub overflow_add-n : goal.overflow_add-n
overflow_add-n c = let w = c.loop-at.invariant in omega (arith, c.if-text-end.false, c.line_end-end.ensures, w.lines, w.counted)

pub loop-at-smaller : goal.loop-at-smaller
loop-at-smaller c = let w = c.loop-at.invariant in omega (arith, c.if-text-end.false, c.line_end-end.ensures, w.lines, w.counted)

pub loop-at-preserved : goal.loop-at-preserved
loop-at-preserved c =
    let g = left_step _ _ _ _ _ _ _ _ c.loop-at.invariant _ c.line_end-end.ensures c.if-text-end.false _ c.saying-line.ensures _ c.in-Said.is in
    rw (c.moved-place.ensures, c.keep-next.ensures.next, c.keep-next.ensures.list) g

pub shape_of-entries : goal.shape_of-entries
shape_of-entries c = left_long _ _ _ _ _ _ _ _ c.loop-at.invariant

pub returns : goal.returns
returns c =
    let p = left_end _ _ _ _ _ _ _ _ c.loop-at.invariant c.loop-at-test.false in record { answer = rw c.end_of.ensures p.0; entries = p.1 }
