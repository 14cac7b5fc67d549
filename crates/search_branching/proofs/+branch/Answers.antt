-- `search_branching::branch` meets its contract. Assumes nothing.
use Rattle.std.specs.Prelude.{Some, is_none}
use mathlib.Core.Path.{◌≡◌, sym, ◌∙◌, ap}
use mathlib.Core.List.{List}
use Prim.Native.Nat.{ℕ, ◌-◌, ◌+◌, ◌*◌, ◌≤◌}
use native.Mathlib.Omega.{arith}
use lib.ListN.{length, take}
use borrow.Author.Rules.{rules}
use Rattle.search_pivot.proofs.Taking.{taken-left}
use Rattle.search_pivot.specs.declared.Taken.{Taken}
use Rattle.search_rows.specs.declared.Pattern.{Pattern}
use Rattle.search_rows.specs.First.{first_shown}
use Rattle.search_rows.proofs.Reading.{row_fits}
use Rattle.search_rows.proofs.First.{first_clear, first_some}
use Rattle.search_found.proofs.Passing.{finds_lowest_clear, lowest_clear_finds}
use Rattle.search_branching.proofs.Branching.{finds_pruned, finds_lowest, branched_start, branched_same, branched_child, child_rising, child_shorter, branched_end}
use Rattle.search_branching.proofs.+branch.Goals as goal
use Rattle.search_branching.proofs.+branch.Goals.{then-taken-ne0, else-taken-ne0}

-- the row in which the lowest member shows the pattern stands in the table
fits : (p : Pattern) (table : List ℕ) (m x t : ℕ) → first_shown p table m x ≡ Some t → m * p.columns ≤ length table → t * p.columns + p.columns ≤ length table
fits p table m x t e b = row_fits t m p.columns (length table) (first_some p table m x t e).0 b

pub returns-then-reached : goal.returns-then-reached
returns-then-reached t c =
    let a = c.args in
    finds_lowest_clear a.pattern a.table.now a.rows a.lowest (take a.free a.vectors) a.before a.before
    (finds_pruned a.pattern a.table.now a.rows a.lowest (take a.free a.vectors) a.before c.requires.rising (sym c.reached.ensures ∙ c.if-reached.true))

pub leaf-requires : goal.leaf-requires
leaf-requires t c =
    let z = c.is_leaf.ensures c.if-is_leaf.true in
    let n : length c.args.vectors ≡ 64 = search rules in record { leaf = (z, omega (arith, z.few)); rising = c.requires.rising; table = c.requires.columns_in_bounds }

pub returns-then-is_leaf : goal.returns-then-is_leaf
returns-then-is_leaf t c = c.leaf.ensures

pub returns-in_default : goal.returns-in_default
returns-in_default t c =
    let a = c.args in
    finds_lowest_clear a.pattern a.table.now a.rows a.lowest (take a.free a.vectors) a.before _
    (finds_lowest a.pattern a.table.now a.rows a.lowest (take a.free a.vectors) a.before c.requires.rising (omega arith)
    (sym c.reached.ensures ∙ c.if-reached.false)
    (first_clear a.pattern a.table.now a.rows a.lowest _ c.first_shown.ensures ∙ ap is_none c.in_default.is))

pub overflow_mul-first : goal.overflow_mul-first
overflow_mul-first t c = let g = fits c.args.pattern c.args.table.now c.args.rows c.args.lowest c.in-Some.row (sym c.first_shown.ensures ∙ c.in-Some.is) c.requires.columns_in_bounds in search rules

pub overflow_add-masks : goal.overflow_add-masks
overflow_add-masks t c = let g = fits c.args.pattern c.args.table.now c.args.rows c.args.lowest c.in-Some.row (sym c.first_shown.ensures ∙ c.in-Some.is) c.requires.columns_in_bounds in search rules

pub offset_bounds-table-first : goal.offset_bounds-table-first
offset_bounds-table-first t c = let g = fits c.args.pattern c.args.table.now c.args.rows c.args.lowest c.in-Some.row (sym c.first_shown.ensures ∙ c.in-Some.is) c.requires.columns_in_bounds in search rules

pub slice_bounds-masks-end : goal.slice_bounds-masks-end
slice_bounds-masks-end t c = let g = fits c.args.pattern c.args.table.now c.args.rows c.args.lowest c.in-Some.row (sym c.first_shown.ensures ∙ c.in-Some.is) c.requires.columns_in_bounds in search rules

pub loop-mask-init : goal.loop-mask-init
loop-mask-init t c =
    let a = c.args in
    (search rules, branched_start a.pattern a.table.now a.rows a.lowest (take a.free a.vectors) a.before _ c.requires.rising)

pub branch-found-requires : goal.branch-found-requires
branch-found-requires t c =
    let l = c.loop-mask in
    let a = c.args in
    let o = c.take_out-taken in
    let e = ap (λ (u : Taken). u.pivot) o.ensures.answer in
    let w = taken-left _ (take l.left l.rest) o.new.vectors _ o.result o.ensures.answer o.ensures.buffer in (
      omega (arith, ap length w, child_shorter a.pattern a.table.now a.rows a.lowest (take a.free a.vectors) a.before _ (take l.left l.rest) l.found l.found l.mask-index (λ z. c.if-taken-ne0.true (e ∙ z)) l.invariant.1),
      (rw (w, e) (child_rising a.pattern a.table.now a.rows a.lowest (take a.free a.vectors) a.before _ (take l.left l.rest) l.found l.found l.mask-index (λ z. c.if-taken-ne0.true (e ∙ z)) l.invariant.1), c.requires.columns_in_bounds),
    )

pub loop-mask-preserved : goal.loop-mask-preserved
loop-mask-preserved t c =
    let l = c.loop-mask in
    let a = c.args in
    let o = c.take_out-taken in
    let e = ap (λ (u : Taken). u.pivot) o.ensures.answer in
    let w = taken-left _ (take l.left l.rest) o.new.vectors _ o.result o.ensures.answer o.ensures.buffer in (
      o.auto.vectors ∙ l.invariant.0,
      rw w (elim c.if-taken-ne0.branch [
        | then-taken-ne0 v ↦
            rw v.found-is (branched_child a.pattern a.table.now a.rows a.lowest (take a.free a.vectors) a.before _ (take l.left l.rest) l.found v.branch-found.result l.mask-index (λ z. v.if-taken-ne0.true (e ∙ z)) l.invariant.1 c.loop-mask-test.true
            (lowest_clear_finds a.pattern a.table.now a.rows _ _ l.found v.branch-found.result (rw (w, e) at v.branch-found.ensures)))
        | else-taken-ne0 v ↦ rw v.found-is (branched_same a.pattern a.table.now a.rows a.lowest (take a.free a.vectors) a.before _ (take l.left l.rest) l.found l.mask-index c.loop-mask-test.true (sym e ∙ v.if-taken-ne0.false) l.invariant.1)
      ]),
    )

pub returns : goal.returns
returns t c =
    let l = c.loop-mask in
    let a = c.args in
    let r = c.in-Some in
    let f = first_some a.pattern a.table.now a.rows a.lowest r.row (sym c.first_shown.ensures ∙ r.is) in
    let q = r.row * a.pattern.columns in
    let k : q + a.pattern.columns - q ≡ a.pattern.columns = omega arith in
    finds_lowest_clear a.pattern a.table.now a.rows a.lowest (take a.free a.vectors) a.before l.found
    (branched_end a.pattern a.table.now a.rows a.lowest (take a.free a.vectors) a.before _ r.row (take l.left l.rest) l.found l.mask-index (rw k) c.loop-mask-test.false f.0 f.1 l.invariant.1)
