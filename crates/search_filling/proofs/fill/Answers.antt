-- `search_filling::fill` meets its contract. Assumes nothing.
use native.Mathlib.Omega.{arith}
use mathlib.Core.Path.{◌≡◌, refl, ◌∙◌}
use Prim.Native.Nat.{◌+◌, ◌*◌, ◌≤◌}
use lib.ListN.{length, take}
use Rattle.search_filling.proofs.Words.{filled_row, filled_same}
use Rattle.search_filling.proofs.fill.Goals as goal
use Rattle.search_filling.proofs.fill.Goals.{then-fill_row, else-fill_row}

pub loop-row-preserved : goal.loop-row-preserved
loop-row-preserved c =
    let a = c.args in
    let l = c.loop-row in
    let o = c.fill_row in
    let k : length o.new.words ≡ length l.words = o.auto.words in
    let room : l.count * (a.pattern.columns * 2) + a.pattern.columns * 2 ≤ length l.words = omega (arith, l.invariant.1) in (
      elim c.if-fill_row.branch [ then-fill_row v ↦ omega (arith, v.count-is) | else-fill_row v ↦ omega (arith, v.count-is) ],
      k ∙ l.invariant.1,
      elim c.if-fill_row.branch [
        | then-fill_row v ↦ rw v.count-is (filled_row a.pattern a.table.now a.rows a.lowest (take a.free a.vectors.now) l.words o.new.words l.count _ refl k o.ensures.before l.invariant.2 l.row (omega arith) room (o.ensures.words v.if-fill_row.true))
        | else-fill_row v ↦ rw v.count-is (filled_same a.pattern a.table.now a.rows a.lowest (take a.free a.vectors.now) l.words o.new.words l.count _ refl k o.ensures.before l.invariant.2)
      ],
    )
