-- `stop_choice::choose` meets its contract: the best is the choice among those passed. Assumes nothing.
use mathlib.Core.Path.{◌≡◌, refl, ap, ◌∙◌}
use Prim.Native.Nat.{◌*◌}
use native.Mathlib.Omega.{arith}
use Rattle.stop_steps.specs.Steps.{choice as choice_of}
use Rattle.stop_choice.specs.Choosing.{weighed, chosen}
use Rattle.stop_choice.proofs.Tracking.{weigh-next}
use Rattle.stop_choice.proofs.choose.Goals as goal

pub loop-choice-init : goal.loop-choice-init
unfolding choice_of
loop-choice-init c = refl

pub weigh-best-requires : goal.weigh-best-requires
weigh-best-requires c = record { choice = omega arith; stop = c.requires.stop }

pub loop-choice-preserved : goal.loop-choice-preserved
loop-choice-preserved c =
    let l = c.loop-choice in
    let a = c.args in
    c.weigh-best.ensures ∙ ap (weighed a.stop a.specified.now a.bits.now l.choice) l.invariant ∙ weigh-next a.stop a.specified.now a.bits.now l.choice

pub returns : goal.returns
unfolding chosen
returns c =
    let l = c.loop-choice in
    let a = c.args in
    let e : l.choice ≡ 2 * a.chains = omega arith in
    l.invariant ∙ rw e
