-- `stop_slice::form` meets its contract: the stop slice so far is that of the steps taken. Assumes nothing.
use mathlib.Core.Path.{refl, sym, ap, ◌∙◌}
use native.Mathlib.Omega.{arith}
use Rattle.machine_slices.specs.declared.TestSlice.{TestSlice}
use Rattle.stop_steps.specs.Steps.{stage}
use Rattle.stop_choice.specs.Choosing.{next_of}
use Rattle.stop_slice.proofs.Forming.{stage_specified, next-stage, form-stop, form_few, form-spared}
use Rattle.stop_slice.proofs.form.Goals as goal

pub loop-init : goal.loop-init
unfolding stage
loop-init c = refl

pub next-stop-requires : goal.next-stop-requires
next-stop-requires c =
    let l = c.loop in
    let a = c.args in record { chains = c.requires; stop = rw l.invariant (stage_specified a.chains a.specified.now a.bits.now l.counter) }

pub loop-preserved : goal.loop-preserved
loop-preserved c =
    let l = c.loop in
    let a = c.args in
    c.next-stop.ensures ∙ ap (λ (s : TestSlice). next_of a.chains s a.specified.now a.bits.now) l.invariant ∙ next-stage a.chains a.specified.now a.bits.now l.counter

pub spared-requires : goal.spared-requires
spared-requires c =
    let l = c.loop in record { few = form_few _ _ _ l.stop l.counter l.invariant (omega arith) (λ z. c.if-left-eq0.false (c.count_in-left.ensures ∙ z)) }

pub returns-then-left-eq0 : goal.returns-then-left-eq0
returns-then-left-eq0 c =
    let l = c.loop in
    form-stop _ _ _ l.stop l.counter l.invariant (omega arith) (sym c.count_in-left.ensures ∙ c.if-left-eq0.true)

pub returns-else-left-eq0 : goal.returns-else-left-eq0
returns-else-left-eq0 c =
    let l = c.loop in
    c.spared.ensures ∙ form-spared _ _ _ l.stop l.counter l.invariant (omega arith) (λ z. c.if-left-eq0.false (c.count_in-left.ensures ∙ z))
