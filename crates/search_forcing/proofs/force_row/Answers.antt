-- `search_forcing::force_row` meets its contract. Assumes nothing.
use mathlib.Core.Path.{refl}
use Rattle.search_forcing.proofs.Entering.{take_rest, entered}
use Rattle.search_forcing.proofs.force_row.Goals as goal

pub returns-in-Always : goal.returns-in-Always
returns-in-Always c =
    let a = c.args in
    let y = c.in_ok-space.space in
    let w = entered y a.vectors.now a.pattern a.table.now a.row c.across-shows.result _ c.across-shows.ensures c.in-Always.is _ _ refl (take_rest y.free a.vectors.now) in
    rw c.in_ok-space.was record { answer = w.0; buffer = w.1 }

pub returns-in-Unless : goal.returns-in-Unless
returns-in-Unless c =
    let a = c.args in
    let y = c.in_ok-space.space in
    let w = entered y a.vectors.now a.pattern a.table.now a.row c.across-shows.result _ c.across-shows.ensures c.in-Unless.is _ _ c.restrict.ensures.answer c.restrict.ensures.buffer in
    rw c.in_ok-space.was record { answer = w.0; buffer = w.1 }

pub returns-in-Neither : goal.returns-in-Neither
returns-in-Neither c =
    let a = c.args in
    let y = c.in_ok-space.space in
    let w = entered y a.vectors.now a.pattern a.table.now a.row c.across-shows.result _ c.across-shows.ensures c.in-Neither.is _ _ refl (take_rest y.free a.vectors.now) in
    rw c.in_ok-space.was record { answer = w.0; buffer = w.1 }
