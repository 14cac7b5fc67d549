-- `text_entries::numbers` meets its contract. The invariant: what is left of the list, picked from here on, fills the other as the whole does. Assumes nothing.
use mathlib.Core.Logic.{⊎_elim}
use mathlib.Core.Path.{sym, ◌∙◌}
use Prim.Native.Nat.{◌-◌}
use native.Mathlib.Omega.{arith}
use Rattle.text_entries.proofs.Picking.{left_long, left_here, left_other, left_end, offset-most}
use Rattle.text_entries.proofs.numbers.Goals as goal
use Rattle.text_entries.proofs.numbers.Goals.{then-entries-i, else-entries-i}

pub overflow_add-i : goal.overflow_add-i
overflow_add-i c = rw c.offset.ensures (omega (arith, offset-most c.args.part))

pub offset_bounds-entries-i-then-entries-i : goal.offset_bounds-entries-i-then-entries-i
offset_bounds-entries-i-then-entries-i c = rw c.offset.ensures (omega (arith, offset-most c.args.part))

pub bounds-entries-i-then-entries-i : goal.bounds-entries-i-then-entries-i
bounds-entries-i-then-entries-i c = rw c.offset.ensures (omega (arith, offset-most c.args.part))

pub overflow_add-count : goal.overflow_add-count
overflow_add-count c = let l = c.loop-i in omega (arith, l.invariant.few, l.invariant.here)

pub loop-i-preserved : goal.loop-i-preserved
loop-i-preserved c =
    let w = c.loop-i.invariant in
    let h = c.loop-i-test.true in
    elim c.if-entries-i.branch [
      | then-entries-i v ↦ rw (v.list-is, v.count-is, v.store.ensures, v.offset.ensures) (left_here _ _ _ _ _ _ _ w h (v.if-entries-i.true ∙ c.rank.ensures))
      | else-entries-i v ↦ rw (v.list-is, v.count-is) (left_other _ _ _ _ _ _ _ w h (λ q. v.if-entries-i.false (q ∙ sym c.rank.ensures)))
    ]

pub shape_of-list : goal.shape_of-list
shape_of-list c = left_long _ _ _ _ _ _ _ c.loop-i.invariant

pub returns : goal.returns
returns c = let w = left_end _ _ _ _ _ _ _ c.loop-i.invariant c.loop-i-test.false in record { count = w.0; list = w.1 }
