-- `stop_counting::count_in` meets its contract: the slices passed that are in, and those that follow, are all that are in. Assumes nothing.
use mathlib.Core.Path.{sym, ◌∙◌}
use Prim.Native.Nat.{◌<◌, min}
use native.Mathlib.Omega.{arith}
use lib.ListN.{length}
use borrow.Author.Rules.{rules}
use Rattle.stop_counting.proofs.Counting.{in_hit, in_miss, in_end}
use Rattle.stop_counting.proofs.count_in.Goals as goal
use Rattle.stop_counting.proofs.count_in.Goals.{then-is_in, else-is_in}

pub loop-i-init : goal.loop-i-init
loop-i-init c = (c.min-slices.ensures, search rules, search rules, omega arith)

pub loop-i-preserved : goal.loop-i-preserved
loop-i-preserved c =
    let l = c.loop-i in
    let a = c.args in
    let e = c.is_in.ensures in
    let inside : l.i < min (length a.specified.now) (length a.bits.now) = omega arith in
    elim c.if-is_in.branch [
      | then-is_in w ↦ let r = in_hit a.stop a.specified.now a.bits.now l.i inside (sym e ∙ w.if-is_in.true) in (l.invariant.0, omega arith, omega arith, omega arith)
      | else-is_in w ↦ let r = in_miss a.stop a.specified.now a.bits.now l.i inside (sym e ∙ w.if-is_in.false) in (l.invariant.0, omega arith, omega arith, omega arith)
    ]

pub returns : goal.returns
returns c =
    let l = c.loop-i in
    let a = c.args in
    omega (arith, in_end a.stop a.specified.now a.bits.now l.i (omega arith))
