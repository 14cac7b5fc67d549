-- `expander_writing::write_run` meets its contract: what is written and what follows up to the stop are the whole run. Assumes nothing.
use mathlib.Core.Path.{◌≡◌, sym, ◌∙◌}
use native.Mathlib.Omega.{arith}
use Rattle.expander_meaning.proofs.Running.{sliced, shown, stepped}
use Rattle.expander_writing.proofs.Writing.{writes_start, writes_next, writes_stop, writes_end}
use Rattle.expander_writing.proofs.write_run.Goals as goal

pub loop-i-init : goal.loop-i-init
loop-i-init c = writes_start _ _ _ _ _ _ c.requires.place.0

pub bounds-out-i : goal.bounds-out-i
bounds-out-i c = omega (arith, c.loop-i.invariant.size)

pub loop-i-preserved : goal.loop-i-preserved
loop-i-preserved c =
    let l = c.loop-i in
    let x = c.args.expander.now in
    let quiet = shown x.settings x.masks.now x.ready l.state x.stop _ _ c.slice-slice.ensures c.shows.ensures ∙ c.if-shows.false in
    rw (stepped x.settings x.masks.now x.ready l.state x.register x.made c.step-state.result c.step-state.ensures, sliced x.settings x.masks.now x.ready l.state c.slice-slice.result c.slice-slice.ensures)
    at (writes_next _ _ _ _ _ _ l.i l.state l.out l.invariant (omega arith) quiet)

pub shape_of-out : goal.shape_of-out
shape_of-out c = c.loop-i.invariant.size

pub returns : goal.returns
returns c =
    let l = c.loop-i in let e : l.i ≡ c.args.slices = omega arith in let w = writes_end _ _ _ _ _ _ l.i l.state l.out l.invariant (omega arith) in record { place = sym e ∙ w.0; buffer = w.1 }

pub shape_of-out-then-shows : goal.shape_of-out-then-shows
shape_of-out-then-shows c = c.loop-i.invariant.size

pub returns-then-shows : goal.returns-then-shows
returns-then-shows c =
    let l = c.loop-i in
    let x = c.args.expander.now in let w = writes_stop _ _ _ _ _ _ l.i l.state l.out l.invariant (shown x.settings x.masks.now x.ready l.state x.stop _ _ c.slice-slice.ensures c.shows.ensures ∙ c.if-shows.true) in record { place = w.0; buffer = w.1 }
