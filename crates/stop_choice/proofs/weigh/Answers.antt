-- `stop_choice::weigh` meets its contract. Assumes nothing.
use mathlib.Core.Path.{sym, ap, ◌∙◌}
use Prim.Native.Nat.{ℕ}
use native.Mathlib.Omega.{arith}
use Rattle.machine_slices.specs.declared.TestSlice.{TestSlice}
use Rattle.stop_steps.specs.Lookup.{in_count}
use Rattle.stop_choice.specs.Choosing.{track}
use Rattle.stop_steps.proofs.Lookup.{free_unset}
use Rattle.stop_choice.proofs.Tracking.{weighed-set, weighed_unset}
use Rattle.stop_choice.proofs.weigh.Goals as goal

pub put-counted-requires : goal.put-counted-requires
put-counted-requires c = record { unset = record { within = omega arith; unset = free_unset c.args.stop _ (sym c.digit.ensures ∙ c.if-digit-eq0.true); specified = c.requires.stop }; bit = omega arith }

pub returns-then-digit-eq0 : goal.returns-then-digit-eq0
returns-then-digit-eq0 c =
    let a = c.args in
    c.better.ensures
    ∙ ap (λ (n : ℕ). track a.choice n a.best) (c.count_in.ensures ∙ ap (λ (w : TestSlice). in_count w a.specified.now a.bits.now) c.put-counted.ensures)
    ∙ sym (weighed_unset a.stop a.specified.now a.bits.now a.choice a.best c.requires.stop (sym c.digit.ensures ∙ c.if-digit-eq0.true))

pub returns : goal.returns
returns c = sym (weighed-set _ _ _ _ _ (λ z. c.if-digit-eq0.false (c.digit.ensures ∙ z)))
