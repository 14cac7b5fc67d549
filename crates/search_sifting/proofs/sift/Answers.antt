-- `search_sifting::sift` meets its contract. Assumes nothing.
use mathlib.Core.Path.{sym, ◌∙◌}
use Prim.Native.Nat.{◌-◌, ◌+◌, ◌*◌}
use native.Mathlib.Omega.{arith}
use lib.ListN.{take}
use lib.Seq.{length-take-le}
use borrow.Author.Rules.{rules}
use Rattle.words_gf2.proofs.Digits.{one_shifted}
use Rattle.search_excluding.proofs.Excluding.{dead_clear}
use Rattle.search_sifting.proofs.Sifting.{group_first, group_passed, group_dead, found_none, found_number, found_before, group_below, groups_whole}
use Rattle.search_sifting.proofs.sift.Goals as goal
use Rattle.search_sifting.proofs.sift.Goals.{then-dead+else-reached+in_default, else-dead}

pub overflow_shl-groups : goal.overflow_shl-groups
overflow_shl-groups c = omega (arith, c.requires.leaf.0.few)

pub loop-group-init : goal.loop-group-init
loop-group-init c = λ j h. absurd (omega arith)

pub dead_lanes-dead-requires : goal.dead_lanes-dead-requires
dead_lanes-dead-requires c =
    let a = c.args in
    let l = c.loop-group in
    let h = group_below a.free l.group c.requires.leaf.0.few c.loop-group-test.true in
    (c.requires.leaf.0.two, c.requires.leaf.0.word, c.requires.filled.within, h)

pub overflow_mul-group : goal.overflow_mul-group
overflow_mul-group c = let h = group_below c.args.free c.loop-group.group c.requires.leaf.0.few c.loop-group-test.true in search rules

pub returns-then-reached : goal.returns-then-reached
returns-then-reached c =
    let a = c.args in
    let l = c.loop-group in
    let m = c.member in
    found_before a.pattern a.table.now a.rows a.lowest (take a.free a.vectors.now) a.before (l.group * 64) m.result c.requires.rising m.ensures (sym c.reached.ensures ∙ c.if-reached.true) l.invariant

pub clear_lane-requires : goal.clear_lane-requires
clear_lane-requires c =
    let a = c.args in
    let l = c.loop-group in
    let h = group_below a.free l.group c.requires.leaf.0.few c.loop-group-test.true in record { table = c.requires.table; group = h; dead = dead_clear a.pattern a.table.now a.rows a.lowest (take a.free a.vectors.now) a.words.now a.count l.group c.dead_lanes-dead.result h c.requires.filled c.dead_lanes-dead.ensures }

pub returns-in-Some : goal.returns-in-Some
returns-in-Some c =
    let a = c.args in
    let l = c.loop-group in
    let k = c.in-Some in
    let m = c.member-in-Some in
    found_number a.pattern a.table.now a.rows a.lowest (take a.free a.vectors.now) a.before c.lower_of.result (l.group * 64 + k.lane) m.result c.requires.rising (search rules) m.ensures
    (rw m.ensures k.ensures.passes)
    (group_first a.pattern a.table.now a.rows a.lowest (take a.free a.vectors.now) l.group k.lane l.invariant k.ensures.least) c.lower_of.ensures

pub loop-group-preserved : goal.loop-group-preserved
loop-group-preserved c =
    let a = c.args in
    let l = c.loop-group in
    let h = group_below a.free l.group c.requires.leaf.0.few c.loop-group-test.true in
    let d = c.dead_lanes-dead in
    elim c.if-dead.branch [
      | then-dead+else-reached+in_default v ↦ group_passed a.pattern a.table.now a.rows a.lowest (take a.free a.vectors.now) l.group l.invariant v.in_default.ensures
      | else-dead v ↦ group_dead a.pattern a.table.now a.rows a.lowest (take a.free a.vectors.now) l.group d.result (omega (arith, v.if-dead.false)) l.invariant
          (dead_clear a.pattern a.table.now a.rows a.lowest (take a.free a.vectors.now) a.words.now a.count l.group d.result h c.requires.filled d.ensures)
    ]

pub returns : goal.returns
returns c =
    let a = c.args in
    let l = c.loop-group in
    let e = one_shifted (a.free - 6) (omega (arith, c.requires.leaf.0.few)) in
    let n = length-take-le a.free a.vectors.now c.requires.leaf.1 in
    found_none a.pattern a.table.now a.rows a.lowest (take a.free a.vectors.now) a.before (l.group * 64) (rw n (groups_whole a.free l.group c.requires.leaf.0.six (omega arith))) l.invariant
