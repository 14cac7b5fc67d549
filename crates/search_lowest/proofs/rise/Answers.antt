-- `search_lowest::rise` meets its contract. Assumes nothing.
use borrow.Author.Rules.{rules}
use native.Mathlib.Omega.{arith}
use mathlib.Core.Path.{◌≡◌, ◌∙◌}
use Prim.Native.Nat.{◌<◌}
use lib.ListN.{length, take, length-take}
use lib.Seq.{get_or-take, take-take}
use Rattle.search_space.proofs.Blocks.{block_rising, front_rising}
use Rattle.search_lowest.proofs.Rising.{front_more, front_lowest}
use Rattle.search_lowest.proofs.rise.Goals as goal

pub branch-found-requires : goal.branch-found-requires
branch-found-requires c =
    let a = c.args in
    let t : take c.min-few.result (take a.free a.vectors) ≡ take c.min-few.result a.vectors = take-take c.min-few.result a.free a.vectors (omega arith) in record { rising = rw t at (front_rising (take a.free a.vectors) c.min-few.result c.requires.rising); columns_in_bounds = c.requires.columns_in_bounds }

pub loop-count-init : goal.loop-count-init
loop-count-init c =
    let a = c.args in
    let n = c.min-few.result in
    let t : take n (take a.free a.vectors) ≡ take n a.vectors = take-take n a.free a.vectors (omega arith) in
    (omega arith, c.branch-found.ensures ∙ rw t)

pub branch-found-requires-in-loop-count : goal.branch-found-requires-in-loop-count
branch-found-requires-in-loop-count c =
    let a = c.args in
    let d = c.loop-count.count in
    let n : length a.vectors ≡ 64 = search rules in
    let m : d < a.free = omega arith in
    let h : d < length (take a.free a.vectors) = omega (arith, length-take a.free a.vectors) in
    let q = block_rising (take a.free a.vectors) d h c.requires.rising in record { rising = rw (get_or-take a.free a.vectors d 0 m, take-take d a.free a.vectors (omega arith)) at q; columns_in_bounds = c.requires.columns_in_bounds }

pub loop-count-preserved : goal.loop-count-preserved
loop-count-preserved c =
    let a = c.args in
    let l = c.loop-count in
    let n : length a.vectors ≡ 64 = search rules in
    let m : l.count < a.free = omega arith in
    let h : l.count < length (take a.free a.vectors) = omega (arith, length-take a.free a.vectors) in (
      omega arith,
      front_more a.pattern a.table.now a.rows a.lowest (take a.free a.vectors) l.count h l.found c.branch-found-in-loop-count.result l.invariant.1
          (c.branch-found-in-loop-count.ensures ∙ rw (get_or-take a.free a.vectors l.count 0 m, take-take l.count a.free a.vectors (omega arith))),
    )

pub returns : goal.returns
returns c =
    let a = c.args in
    let l = c.loop-count in
    let n : length a.vectors ≡ 64 = search rules in
    λ t e. front_lowest a.pattern a.table.now a.rows a.lowest (take a.free a.vectors) c.requires.rising l.count (omega (arith, length-take a.free a.vectors)) l.found t e l.invariant.1
