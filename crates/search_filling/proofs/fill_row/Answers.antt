-- `search_filling::fill_row` meets its contract. Assumes nothing.
use native.Mathlib.Omega.{arith}
use lib.ListN.{take}
use Rattle.search_filling.proofs.Words.{filling_next, filling_end}
use Rattle.search_filling.proofs.fill_row.Goals as goal

pub loop-column-preserved : goal.loop-column-preserved
loop-column-preserved c =
    let a = c.args in
    let l = c.loop-column in
    filling_next a.pattern a.table.now a.row a.lowest (take a.free a.vectors.now) a.words.now a.first c.requires.table l.words l.bits l.column
    c.column_of-pair.result.low c.column_of-pair.result.high (omega arith) c.requires.space l.invariant c.column_of-pair.ensures

pub returns-clause-words : goal.returns-clause-words
returns-clause-words c =
    let a = c.args in
    let l = c.loop-column in
    λ e. filling_end a.pattern a.table.now a.row a.lowest (take a.free a.vectors.now) a.words.now a.first c.requires.table l.words l.bits l.column (omega arith) l.invariant
