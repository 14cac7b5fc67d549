-- `search_sifting::clear_lane` meets its contract. Assumes nothing.
use Rattle.words_gf2.proofs.Digits.{digit_lt}
use borrow.Author.Count.{below_more}
use Rattle.search_rows.proofs.First.{first_clear}
use native.Mathlib.Omega.{arith}
use mathlib.Core.Path.{◌≡◌, sym, ap, ◌∙◌}
use Prim.Native.Nat.{ℕ, ◌*◌}
use mathlib.Core.Bool.{false, not}
use lib.ListN.{take}
use Rattle.search_sifting.specs.Clear.{lane_clear}
use Rattle.search_sifting.proofs.clear_lane.Goals as goal
use Rattle.search_sifting.proofs.clear_lane.Goals.{then-digit-eq0+else-is_none, else-digit-eq0}

pub returns-then-is_none : goal.returns-then-is_none
returns-then-is_none c =
    let a = c.args in
    let l = c.loop-lane in
    record {
      below = omega arith;
      passes = rw (sym c.member-state.ensures) (first_clear a.pattern a.table.now a.rows _ _ c.first_shown.ensures ∙ ap not c.if-is_none.ensures);
      least = l.invariant;
    }

pub loop-lane-preserved : goal.loop-lane-preserved
loop-lane-preserved c =
    let a = c.args in
    let l = c.loop-lane in
    below_more (λ (j : ℕ). lane_clear a.pattern a.table.now a.rows a.lowest (take a.free a.vectors.now) (a.group * 64) j ≡ false) l.lane l.invariant
    (elim c.if-digit-eq0.branch [ then-digit-eq0+else-is_none v ↦ rw (sym v.member-state.ensures) (first_clear a.pattern a.table.now a.rows _ _ v.first_shown.ensures ∙ ap not v.if-is_none.ensures) | else-digit-eq0 v ↦ c.requires.dead l.lane (omega arith) (omega (arith, digit_lt a.dead l.lane, c.digit.ensures, v.if-digit-eq0.false)) ])
