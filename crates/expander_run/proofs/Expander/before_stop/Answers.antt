-- `expander_run::Expander::before_stop` meets its contract: t slices have come before the stop. Assumes nothing.
use mathlib.Core.Path.{◌≡◌, sym, ◌∙◌}
use native.Mathlib.Omega.{arith}
use Rattle.expander_meaning.proofs.Running.{counted_start, counted_next, counted_stop, counted_end, shown, stepped}
use Rattle.expander_run.proofs.Expander.before_stop.Goals as goal

pub loop-t-init : goal.loop-t-init
loop-t-init c = counted_start _ _ _ _

pub loop-t-preserved : goal.loop-t-preserved
loop-t-preserved c =
    let l = c.loop-t in
    let a = c.args in
    let x = a.self.now in
    let quiet = shown x.settings x.masks.now x.ready l.state x.stop _ _ c.slice.ensures c.shows.ensures ∙ c.if-shows.false in
    rw (stepped x.settings x.masks.now x.ready l.state x.register x.made c.step-state.result c.step-state.ensures) at (counted_next _ _ _ _ l.t l.state l.invariant (omega arith) quiet)

pub returns : goal.returns
returns c =
    let l = c.loop-t in
    let e : l.t ≡ c.args.looked = omega arith in
    sym e ∙ counted_end _ _ _ _ l.t l.state l.invariant (omega arith)

pub returns-then-shows : goal.returns-then-shows
returns-then-shows c =
    let l = c.loop-t in
    let a = c.args in
    let x = a.self.now in
    counted_stop _ _ _ _ l.t l.state l.invariant (shown x.settings x.masks.now x.ready l.state x.stop _ _ c.slice.ensures c.shows.ensures ∙ c.if-shows.true)
