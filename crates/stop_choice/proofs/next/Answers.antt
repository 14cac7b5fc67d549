-- `stop_choice::next` meets its contract. Assumes nothing.
use Rattle.std.specs.Prelude.{None, Some}
use mathlib.Core.Path.{◌≡◌, sym, ◌∙◌}
use native.Mathlib.Omega.{arith}
use Rattle.stop_choice.specs.Choosing.{chosen}
use Rattle.stop_choice.proofs.OneStep.{next_empty, next-none, next_some, chosen_unset}
use Rattle.stop_choice.proofs.next.Goals as goal

pub returns-then-count_in-eq0 : goal.returns-then-count_in-eq0
returns-then-count_in-eq0 c = sym (next_empty _ _ _ _ (sym c.count_in.ensures ∙ c.if-count_in-eq0.true))

pub put-requires : goal.put-requires
put-requires c =
    let b = c.in-Some in
    let e : chosen c.args.chains c.args.stop c.args.specified.now c.args.bits.now ≡ Some b.best = sym c.choose-best.ensures ∙ c.in-Some.is in record { unset = chosen_unset _ _ _ _ _ _ c.requires.chains c.requires.stop e; bit = omega arith }

pub returns-in-None : goal.returns-in-None
returns-in-None c =
    let e : chosen c.args.chains c.args.stop c.args.specified.now c.args.bits.now ≡ None = sym c.choose-best.ensures ∙ c.in-None.is in
    sym (next-none _ _ _ _ (λ z. c.if-count_in-eq0.false (c.count_in.ensures ∙ z)) e)

pub returns-in-Some : goal.returns-in-Some
returns-in-Some c =
    let b = c.in-Some in
    let e : chosen c.args.chains c.args.stop c.args.specified.now c.args.bits.now ≡ Some b.best = sym c.choose-best.ensures ∙ c.in-Some.is in
    c.put.ensures ∙ sym (next_some _ _ _ _ _ _ (λ z. c.if-count_in-eq0.false (c.count_in.ensures ∙ z)) e)
