-- `search_showing::across` meets its contract. Assumes nothing.
use mathlib.Core.Path.{sym, ◌∙◌}
use lib.ListN.{take}
use Rattle.search_showing.proofs.Columns.{across-next, across_end}
use Rattle.search_showing.proofs.across.Goals as goal

pub returns-in-Neither : goal.returns-in-Neither
returns-in-Neither c =
    let a = c.args in
    let l = c.loop-mask in
    sym (across-next _ a.lowest (take a.free a.vectors.now) l.mask-index l.bits l.shows c.column-one.result c.together-shows.result c.loop-mask-test.true c.column-one.ensures c.together-shows.ensures l.invariant ∙ rw c.in-Neither.is)

pub loop-mask-preserved : goal.loop-mask-preserved
loop-mask-preserved c =
    let a = c.args in
    let l = c.loop-mask in
    across-next _ a.lowest (take a.free a.vectors.now) l.mask-index l.bits l.shows c.column-one.result c.together-shows.result c.loop-mask-test.true c.column-one.ensures c.together-shows.ensures l.invariant

pub returns : goal.returns
returns c =
    let a = c.args in
    let l = c.loop-mask in
    across_end _ a.lowest (take a.free a.vectors.now) l.mask-index l.bits l.shows c.loop-mask-test.false l.invariant
