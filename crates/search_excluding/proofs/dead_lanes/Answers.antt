-- `search_excluding::dead_lanes` meets its contract. Assumes nothing.
use borrow.Author.Rules.{rules}
use native.Mathlib.Omega.{arith}
use Prim.Native.Nat.{◌+◌, ◌*◌}
use lib.ListN.{length}
use Rattle.search_rows.proofs.Reading.{row_fits}
use Rattle.search_excluding.proofs.Excluding.{kills_none, kills_row, kills_fewer}
use Rattle.search_excluding.proofs.dead_lanes.Goals as goal

pub loop-row-init : goal.loop-row-init
loop-row-init c = let a = c.args in kills_none a.words.now a.columns a.group

pub overflow_mul-row : goal.overflow_mul-row
overflow_mul-row c =
    let g = row_fits c.loop-row.row c.args.count (c.args.columns * 2) (length c.args.words.now) (omega arith) c.requires.2 in
    search rules

pub showing-dead-requires : goal.showing-dead-requires
showing-dead-requires c =
    (c.requires.0, c.requires.1, row_fits c.loop-row.row c.args.count (c.args.columns * 2) (length c.args.words.now) (omega arith) c.requires.2, c.requires.3)

pub returns-then-dead : goal.returns-then-dead
returns-then-dead c =
    let a = c.args in
    let l = c.loop-row in
    kills_fewer a.words.now a.columns a.group (l.row + 1) a.count _ (omega arith) (kills_row a.words.now a.columns a.group l.row l.dead c.showing-dead.result l.invariant c.showing-dead.ensures)

pub loop-row-preserved : goal.loop-row-preserved
loop-row-preserved c =
    let a = c.args in
    let l = c.loop-row in
    kills_row a.words.now a.columns a.group l.row l.dead c.showing-dead.result l.invariant c.showing-dead.ensures

pub returns : goal.returns
returns c =
    let a = c.args in
    let l = c.loop-row in
    kills_fewer a.words.now a.columns a.group l.row a.count l.dead (omega arith) l.invariant
