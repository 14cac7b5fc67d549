-- `search_filling::column_of` meets its contract. Assumes nothing.
use lib.Seq.{length-take-le}
use Rattle.search_filling.proofs.Words.{column_yes, column_no}
use native.Mathlib.Omega.{arith}
use mathlib.Core.Path.{refl, sym}
use Rattle.search_filling.proofs.column_of.Goals as goal

pub slice_bounds-reading-end : goal.slice_bounds-reading-end
slice_bounds-reading-end c = let v = c.args.vectors.now in sym (length-take-le 6 v (omega arith))

pub returns-then-bit-eq1 : goal.returns-then-bit-eq1
returns-then-bit-eq1 c =
    let a = c.args in
    column_yes a.lowest a.vectors.now a.free a.mask c.requires.0 c.requires.1 c.requires.2 a.bit _ _ c.if-bit-eq1.true c.reading-low.ensures c.reading-high.ensures

pub returns : goal.returns
returns c =
    let a = c.args in
    column_no a.lowest a.vectors.now a.free a.mask c.requires.0 c.requires.1 c.requires.2 a.bit _ c.reading-high.result _ c.requires.3 c.if-bit-eq1.false c.reading-low.ensures c.reading-high.ensures refl
