-- `search_table::choose` meets its contract. Assumes nothing.
use native.Mathlib.Omega.{arith}
use Rattle.search_table.proofs.Choosing.{choosing_start, choosing_take, choosing_skip, choosing_end}
use Rattle.search_table.proofs.choose.Goals as goal
use Rattle.search_table.proofs.choose.Goals.{then-left-eq1, else-left-eq1}

pub loop-mask-init : goal.loop-mask-init
loop-mask-init c = choosing_start c.args.specified c.args.masks.now c.args.chosen.now

pub loop-mask-preserved : goal.loop-mask-preserved
loop-mask-preserved c =
    let a = c.args in
    let l = c.loop-mask in
    elim c.if-left-eq1.branch [
      | then-left-eq1 w ↦ rw (w.chosen-is, w.count-is) (choosing_take a.specified a.masks.now a.chosen.now l.left l.count l.mask-index l.chosen (omega arith) l.invariant w.if-left-eq1.true)
      | else-left-eq1 w ↦ rw (w.chosen-is, w.count-is) (choosing_skip a.specified a.masks.now a.chosen.now l.left l.count l.mask-index l.chosen (omega arith) l.invariant w.if-left-eq1.false)
    ]

pub returns : goal.returns
returns c =
    let a = c.args in
    let l = c.loop-mask in let w = choosing_end a.specified a.masks.now a.chosen.now l.left l.count l.mask-index l.chosen c.requires (omega arith) l.invariant in record { answer = w.0; buffer = w.1 }
