-- `window_rows::meet` meets its contract. Assumes nothing.
use Rattle.std.specs.Prelude.{None, Some}
use mathlib.Core.Path.{◌≡◌, refl, sym, ◌∙◌}
use Prim.Native.Nat.{◌-◌, ◌%◌}
use native.Mathlib.Omega.{arith}
use lib.ListN.{get_or, length, take}
use borrow.Author.Rules.{rules}
use Rattle.window_rows.specs.Meeting.{meets}
use Rattle.window_rows.proofs.Meeting.{meet-take, meet-stop, meet_skip, meet_end, left_chain, left-half}
use Rattle.window_rows.proofs.Narrowing.{narrowed_restrict}
use Rattle.window_rows.proofs.meet.Goals as goal
use Rattle.window_rows.proofs.meet.Goals.{then-left-eq1+in_ok-kept, else-left-eq1}

pub loop-left-init : goal.loop-left-init
loop-left-init c =
    let e : length c.args.row.now - 0 ≡ length c.args.row.now = omega arith in
    (rw e c.requires, refl, λ z ws q. q)

pub offset_bounds-row-chain : goal.offset_bounds-row-chain
offset_bounds-row-chain c =
    let r = c.args.row.now in
    let h = left_chain (length r) c.loop-left.chain c.loop-left.left c.loop-left.invariant.0 c.loop-left-test.true in
    search rules

pub bounds-row-chain : goal.bounds-row-chain
bounds-row-chain c =
    left_chain (length c.args.row.now) c.loop-left.chain c.loop-left.left c.loop-left.invariant.0 c.loop-left-test.true

pub overflow_add-chain : goal.overflow_add-chain
overflow_add-chain c =
    let r = c.args.row.now in
    let h = left_chain (length r) c.loop-left.chain c.loop-left.left c.loop-left.invariant.0 c.loop-left-test.true in
    search rules

pub loop-left-preserved : goal.loop-left-preserved
loop-left-preserved c =
    let l = c.loop-left in
    let a = c.args in
    let row = a.row.now in
    let Q = meets row a.specified a.bits in
    let us = take a.space.free a.vectors.now in
    let vs = take l.kept.free l.vectors in
    let h = left_chain (length row) l.chain l.left l.invariant.0 c.loop-left-test.true in (
      left-half (length row) l.chain l.left l.invariant.0 h,
      elim c.if-left-eq1.branch [ then-left-eq1+in_ok-kept w ↦ rw w.vectors-is w.restrict.auto.vectors ∙ l.invariant.1 | else-left-eq1 w ↦ rw w.vectors-is l.invariant.1 ],
      elim c.if-left-eq1.branch [
        | then-left-eq1+in_ok-kept w ↦
            let k = w.in_ok-kept.kept in
            let out = w.restrict.new.vectors in
            let g = narrowed_restrict (get_or row l.chain 0) (l.values % 2) (omega arith) l.kept vs (Some k) out _ (sym w.in_ok-kept.was ∙ w.restrict.ensures.answer) w.restrict.ensures.buffer in
            rw (w.vectors-is, w.kept-is) (meet-take row Q a.space us l.chain l.left l.values l.kept vs h w.if-left-eq1.true l.invariant.2 k (take k.free out) g)
        | else-left-eq1 w ↦ rw (w.vectors-is, w.kept-is) (meet_skip row Q a.space us l.chain l.left l.values l.kept vs h w.if-left-eq1.false l.invariant.2)
      ],
    )

pub returns-in_err-kept : goal.returns-in_err-kept
returns-in_err-kept c =
    let l = c.loop-left in
    let a = c.args in
    let row = a.row.now in
    let vs = take l.kept.free l.vectors in
    let h = left_chain (length row) l.chain l.left l.invariant.0 c.loop-left-test.true in
    let g = narrowed_restrict (get_or row l.chain 0) (l.values % 2) (omega arith) l.kept vs None c.restrict.new.vectors _ (sym c.in_err-kept.was ∙ c.restrict.ensures.answer) c.restrict.ensures.buffer in
    rw c.from_residual.ensures (meet-stop row (meets row a.specified a.bits) a.space (take a.space.free a.vectors.now) l.chain l.left l.values l.kept vs h c.if-left-eq1.true l.invariant.2 c.restrict.new.vectors c.restrict.new.vectors g)

pub returns : goal.returns
returns c =
    let l = c.loop-left in
    meet_end c.args.row.now (meets c.args.row.now c.args.specified c.args.bits) c.args.space (take c.args.space.free c.args.vectors.now) l.chain l.left l.values l.kept l.vectors c.loop-left-test.false l.invariant.2
