-- `expander_total::total_of` meets its contract: the seeds passed have delivered the total so far. Assumes nothing.
use Rattle.std.specs.Prelude.{Err}
use Rattle.std.proofs.lemmas.Result.{err_from_is_err_and}
use mathlib.Core.Path.{sym, ap, ◌∙◌}
use native.Mathlib.Omega.{arith}
use Rattle.expander_total.proofs.Tallying.{tallied_start, tallied_end, tallied_refused, tallied_nothing, few_more, tallied_more}
use Rattle.expander_total.proofs.total_of.Goals as goal

pub loop-place-init : goal.loop-place-init
loop-place-init c = (omega arith, tallied_start _ _ _ _ _)

pub returns-in_err-length : goal.returns-in_err-length
returns-in_err-length c =
    let l = c.loop-place in
    let r = c.run_of in
    let there = c.loop-place-test.true in
    let owed = c.saturating_sub-left.ensures in
    let x = err_from_is_err_and _ c.from_residual.ensures.1 in
    x.1 ∙ ap Err x.2 ∙ sym (tallied_refused _ _ _ _ _ l.place l.total l.invariant.1 there r.result _ owed r.ensures _ c.in_err-length.was)

pub returns-then-length-eq0 : goal.returns-then-length-eq0
returns-then-length-eq0 c =
    let l = c.loop-place in
    let r = c.run_of in
    let there = c.loop-place-test.true in
    let owed = c.saturating_sub-left.ensures in
    sym (tallied_nothing _ _ _ _ _ l.place l.total l.invariant.1 there r.result _ owed r.ensures _ c.in_ok-length.was c.if-length-eq0.true)

pub overflow_add-total : goal.overflow_add-total
overflow_add-total c =
    let l = c.loop-place in
    let r = c.run_of in
    let there = c.loop-place-test.true in
    let owed = c.saturating_sub-left.ensures in
    let few = few_more _ _ _ _ _ l.place l.total l.invariant.1 there r.result _ owed r.ensures _ c.in_ok-length.was in
    omega (arith, few, l.invariant.0, c.args.expander.now.ready.limit, c.requires.seeds)

pub loop-place-preserved : goal.loop-place-preserved
loop-place-preserved c =
    let l = c.loop-place in
    let r = c.run_of in
    let there = c.loop-place-test.true in
    let owed = c.saturating_sub-left.ensures in
    let few = few_more _ _ _ _ _ l.place l.total l.invariant.1 there r.result _ owed r.ensures _ c.in_ok-length.was in
    (omega (arith, few, l.invariant.0, c.args.expander.now.ready.limit), tallied_more _ _ _ _ _ l.place l.total l.invariant.1 there r.result _ owed r.ensures _ c.in_ok-length.was (omega arith))

pub returns : goal.returns
returns c =
    let l = c.loop-place in
    sym (tallied_end _ _ _ _ _ l.place l.total l.invariant.1 (omega arith))
